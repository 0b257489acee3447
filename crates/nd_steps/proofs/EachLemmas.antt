-- Lists of changes: what they add at a place, what holds of each of them, the same in another order, and a place that occurs in
-- one of them.
use Rattle.std.proofs.Common.{◌≡◌, ◌≢◌, ◌<◌, ◌+◌, ℕ, zero, suc, ℤ, pos, negsuc, neg_ℤ, ◌+ℤ◌, ◌-ℤ◌, Bool, true, false, cond, List, [], ◌∷◌, ◌++◌, take, drop, length, get_or, refl, sym, ap, subst, ◌∙◌, arith, drop-cons, true≢false}
use Rattle.std.proofs.lemmas.Int.{ints}
use Rattle.std.proofs.lemmas.List.{take-append-drop}
use Rattle.std.proofs.lemmas.List.Sorted.{All-permutation, sum_by-IsPermutation}
use Rattle.std.proofs.lemmas.List.Sums.{sum_by-cons}
use Rattle.std.specs.List.{sum_by}
use Rattle.std.specs.List.Sorted.{IsPermutation}
use Rattle.std.specs.Ordering.{eq_by_cmp}
use Rattle.nd_map.specs.Counts.{natural}
use Rattle.nd_protocol.specs.State.{ClusterState}
use Rattle.nd_steps.specs.Places.{Place, place_cmp, place_total, is_place}
use Rattle.nd_steps.proofs.AlikeLemmas.{same_key, other_place}
use Rattle.nd_steps.specs.Slots.{SlotMay, SlotWithin}
use Rattle.nd_steps.specs.Integers.{standing, IsThere}
use Rattle.nd_steps.specs.Changes.{place_of, made, Fits, applied}
use Rattle.nd_steps.specs.Plans.{often, total_at, Once, Each}
use Rattle.nd_steps.specs.declared.change.Change.{Change}
use Rattle.nd_steps.specs.declared.slot.Slot.TheVariants.{Token}
use Rattle.nd_steps.proofs.PlacesLemmas.{SameShape, shape-turned, there_alike, standing-put_other}
use Rattle.nd_steps.proofs.RunsLemmas.{shape-made}

pub plus_none : (x : ℤ) → x +ℤ pos 0 ≡ x
plus_none x = omega (arith, ints)

-- ---- two lists, one after the other

-- how often a place occurs in both
pub often-append : (k : Place) (cs ds : List Change) → often k (cs ++ ds) ≡ often k cs + often k ds
often-append k [] ds = omega arith
often-append k (c ∷ cs) ds = let e = often-append k cs ds in omega (arith, e)

-- what both add
pub total-append : (k : Place) (cs ds : List Change) → total_at k (cs ++ ds) ≡ total_at k cs +ℤ total_at k ds
total-append k [] ds = omega (arith, ints)
total-append k (c ∷ cs) ds = let e = total-append k cs ds in omega (arith, ints, e)

-- what holds of each of both
pub each-append : (P : Change → Type 0) (cs ds : List Change) → Each P cs → Each P ds → Each P (cs ++ ds)
each-append P [] ds h i = i
each-append P (c ∷ cs) ds h i = (h.0, each-append P cs ds h.1 i)

-- ---- every change of a list

pub each_at : (P : Change → Type 0) (cs : List Change) (k : ℕ) (d : Change) → Each P cs → k < length cs → P (get_or cs k d)
each_at P [] k d h lt = absurd (omega (arith, lt))
each_at P (c ∷ cs) zero d h lt = h.0
each_at P (c ∷ cs) (suc k) d h lt = each_at P cs k d h.1 (omega (arith, lt))

pub each_take : (P : Change → Type 0) (cs : List Change) (k : ℕ) → Each P cs → Each P (take k cs)
each_take P cs zero h = tt
each_take P [] (suc k) h = tt
each_take P (c ∷ cs) (suc k) h = (h.0, each_take P cs k h.1)

pub each_from : (P : Change → Type 0) (cs : List Change) → ((k : ℕ) (d : Change) → k < length cs → P (get_or cs k d)) → Each P cs
each_from P [] h = tt
each_from P (c ∷ cs) h = (h 0 c (omega arith), each_from P cs (λ k d lt. h (suc k) d (omega (arith, lt))))

pub each_through : (P Q : Change → Type 0) → ((c : Change) → P c → Q c) → (cs : List Change) → Each P cs → Each Q cs
each_through P Q imp [] h = tt
each_through P Q imp (c ∷ cs) h = (imp c h.0, each_through P Q imp cs h.1)

-- a change that serves as a default
abbrev pub no_change : Change
no_change = record { p = 0; slot = Token 0; n = pos 0 }

-- ---- the same changes in another order

pub each_moved : (P : Change → Type 0) (cs ds : List Change) → IsPermutation cs ds → Each P cs → Each P ds
each_moved P cs ds moved h = each_from P ds (All-permutation P cs ds moved (λ k d lt. each_at P cs k d h lt))

abbrev once_at : Place → Change → ℕ
once_at k c = cond (eq_by_cmp place_cmp k (place_of c)) 1 0

often_summed : (k : Place) (cs : List Change) → often k cs ≡ sum_by (once_at k) cs
often_summed k [] = refl
often_summed k (c ∷ cs) = ap (λ n. once_at k c + n) (often_summed k cs) ∙ sym (sum_by-cons (once_at k) c cs)

pub often_moved : (k : Place) (cs ds : List Change) → IsPermutation cs ds → often k ds ≡ often k cs
often_moved k cs ds moved = often_summed k ds ∙ sum_by-IsPermutation (once_at k) cs ds moved ∙ sym (often_summed k cs)

-- a sum of integers is the sum of the positive ones minus that of the negative ones
abbrev up : ℤ → ℕ
up z = natural z

abbrev down : ℤ → ℕ
down z = natural (neg_ℤ z)

abbrev added_at : Place → Change → ℤ
added_at k c = cond (eq_by_cmp place_cmp k (place_of c)) c.n (pos 0)

parted : (z : ℤ) → z ≡ pos (up z) -ℤ pos (down z)
parted (pos zero) = refl
parted (pos (suc n)) = omega (arith, ints)
parted (negsuc n) = omega (arith, ints)

total_parted : (k : Place) (cs : List Change) → total_at k cs ≡ pos (sum_by (λ c. up (added_at k c)) cs) -ℤ pos (sum_by (λ c. down (added_at k c)) cs)
total_parted k [] = omega (arith, ints)
total_parted k (c ∷ cs) =
    let here = parted (added_at k c) in
    let rest = total_parted k cs in
    let ups = sum_by-cons (λ c. up (added_at k c)) c cs in
    let downs = sum_by-cons (λ c. down (added_at k c)) c cs in
    omega (arith, ints, here, rest, ups, downs)

pub total_moved : (k : Place) (cs ds : List Change) → IsPermutation cs ds → total_at k ds ≡ total_at k cs
total_moved k cs ds moved =
    total_parted k ds
    ∙ (λ i. pos (sum_by-IsPermutation (λ c. up (added_at k c)) cs ds moved i) -ℤ pos (sum_by-IsPermutation (λ c. down (added_at k c)) cs ds moved i))
    ∙ sym (total_parted k cs)

-- ---- a place that occurs once

pub not_there : (b : Bool) (n : ℕ) → cond b 1 0 + n ≡ 0 → b ≡ false
not_there true n e = absurd (omega (arith, e))
not_there false n e = refl

pub rest_none : (b : Bool) (n : ℕ) → cond b 1 0 + n ≡ 0 → n ≡ 0
rest_none true n e = absurd (omega (arith, e))
rest_none false n e = omega (arith, e)

none_added : (b : Bool) (z w : ℤ) → b ≡ false → w ≡ pos 0 → cond b z (pos 0) +ℤ w ≡ pos 0
none_added true z w e h = absurd (true≢false e)
none_added false z w e h = omega (arith, ints, h)

-- nothing is added at a place that does not occur in the list
pub never_added : (k : Place) (cs : List Change) → often k cs ≡ 0 → total_at k cs ≡ pos 0
never_added k [] e = refl
never_added k (c ∷ cs) e =
    none_added (eq_by_cmp place_cmp k (place_of c)) (c.n) (total_at k cs) (not_there (eq_by_cmp place_cmp k (place_of c)) (often k cs) e)
    (never_added k cs (rest_none (eq_by_cmp place_cmp k (place_of c)) (often k cs) e))

module _ (cs : List Change) (once : Once cs) (k : ℕ) (d : Change) (lt : k < length cs) where
  around : often (place_of (get_or cs k d)) (take k cs) + (1 + often (place_of (get_or cs k d)) (drop (suc k) cs)) ≡ often (place_of (get_or cs k d)) cs
  around =
      let c = get_or cs k d in
      let x = place_of c in
      let split : often x (take k cs) + often x (drop k cs) ≡ often x cs = sym (often-append x (take k cs) (drop k cs)) ∙ ap (often x) (take-append-drop k cs) in
      let here : often x (drop k cs) ≡ 1 + often x (drop (suc k) cs)
      = ap (often x) (drop-cons cs k d lt) ∙ ap (λ b. cond b 1 0 + often x (drop (suc k) cs)) (same_key place_total x) in
      ap (λ n. often x (take k cs) + n) (sym here) ∙ split

  pub often_before : often (place_of (get_or cs k d)) (take k cs) ≡ 0
  often_before = let e = around in let h = once (place_of (get_or cs k d)) in omega (arith, e, h)

  often_after : often (place_of (get_or cs k d)) (drop (suc k) cs) ≡ 0
  often_after = let e = around in let h = once (place_of (get_or cs k d)) in omega (arith, e, h)

  -- what is added at its place is its integer
  pub gain_alone : total_at (place_of (get_or cs k d)) cs ≡ (get_or cs k d).n
  gain_alone =
      let c = get_or cs k d in
      let x = place_of c in
      let split : total_at x (take k cs) +ℤ total_at x (drop k cs) ≡ total_at x cs = sym (total-append x (take k cs) (drop k cs)) ∙ ap (total_at x) (take-append-drop k cs) in
      let here : total_at x (drop k cs) ≡ c.n +ℤ total_at x (drop (suc k) cs)
      = ap (total_at x) (drop-cons cs k d lt) ∙ ap (λ b. cond b (c.n) (pos 0) +ℤ total_at x (drop (suc k) cs)) (same_key place_total x) in
      let before : total_at x (take k cs) ≡ pos 0 = never_added x (take k cs) often_before in
      let after : total_at x (drop (suc k) cs) ≡ pos 0 = never_added x (drop (suc k) cs) often_after in
      sym split ∙ (λ i. before i +ℤ here i) ∙ ap (λ z. pos 0 +ℤ (c.n +ℤ z)) after ∙ alone (c.n)
    where
      alone : (z : ℤ) → pos 0 +ℤ (z +ℤ pos 0) ≡ z
      alone z = omega (arith, ints)

-- a place at which no change of the list is
pub never : (P : Change → Type 0) (k : Place) → ((c : Change) → P c → is_place k (place_of c) ≡ false) → (cs : List Change) → Each P cs → often k cs ≡ 0
never P k other [] h = refl
never P k other (c ∷ cs) h = ap (λ b. cond b 1 0 + often k cs) (other c h.0) ∙ (let r = never P k other cs h.1 in omega (arith, r))

pub nothing_at : (P : Change → Type 0) (k : Place) → ((c : Change) → P c → k ≢ place_of c) → (cs : List Change) → Each P cs → total_at k cs ≡ pos 0
nothing_at P k other cs h = never_added k cs (never P k (λ c i. other_place k (place_of c) (other c i)) cs h)

-- the integer at a place that does not occur in the list stays
pub untouched : (s : ClusterState) (cs : List Change) (k : Place) → Each (λ c. IsThere s (place_of c)) cs → often k cs ≡ 0 → standing (applied s cs) k ≡ standing s k
unfolding applied
untouched s [] k there none = refl
untouched s (c ∷ cs) k there none =
    let e : eq_by_cmp place_cmp k (place_of c) ≡ false = not_there (eq_by_cmp place_cmp k (place_of c)) (often k cs) none in
    let rest : often k cs ≡ 0 = rest_none (eq_by_cmp place_cmp k (place_of c)) (often k cs) none in
    let other : k ≢ place_of c = λ h. true≢false (sym (same_key place_total (place_of c)) ∙ ap (λ i. eq_by_cmp place_cmp i (place_of c)) (sym h) ∙ e) in
    untouched (made s c) cs k
    (each_through (λ d. IsThere s (place_of d)) (λ d. IsThere (made s c) (place_of d)) (λ d. there_alike s (made s c) (place_of d) (shape-turned (made s c) s (shape-made s c))) cs there.1) rest
    ∙ standing-put_other s (place_of c) (standing s (place_of c) +ℤ c.n) k there.0 other

-- a change fits any state with the same integer at its place
pub fits_moved : (s u : ClusterState) (c : Change) → SameShape u s → standing u (place_of c) ≡ standing s (place_of c) → Fits s c → Fits u c
fits_moved s u c shape e fits =
    let there : IsThere u (place_of c) = there_alike s u (place_of c) (shape-turned u s shape) (fits.owner, fits.inside.there) in
    record {
      owner = there.0;
      inside = record {
        there = there.1;
        some = fits.inside.some;
        before = subst (SlotWithin c.slot) (sym e) fits.inside.before;
        may = subst (λ z. SlotMay c.slot (z +ℤ c.n)) (sym e) fits.inside.may;
        within = subst (λ z. SlotWithin c.slot (z +ℤ c.n)) (sym e) fits.inside.within;
      };
    }
