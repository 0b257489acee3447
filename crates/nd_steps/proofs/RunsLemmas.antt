-- Changes applied one after the other, and undone.
use Rattle.std.proofs.Common.{◌≡◌, ◌<◌, ◌≤◌, ◌+◌, ℕ, ℤ, pos, neg_ℤ, ◌+ℤ◌, cond, List, [], ◌∷◌, ◌++◌, take, length, get_or, refl, sym, ap, subst, ◌∙◌, arith}
use Rattle.std.proofs.lemmas.Int.{ints}
use Rattle.std.proofs.lemmas.List.{take_more, take_all}
use Rattle.std.proofs.lemmas.Map.Views.{tells_apart}
use Rattle.std.specs.Ordering.{eq_by_cmp}
use Rattle.nd_map.specs.Cases.{again}
use Rattle.nd_protocol.specs.State.{ClusterState}
use Rattle.nd_steps.specs.Places.{Place, place_cmp, place_exact}
use Rattle.nd_steps.specs.Slots.{SlotMay, SlotWithin}
use Rattle.nd_steps.specs.Integers.{standing, put_at, IsThere}
use Rattle.nd_steps.specs.Changes.{place_of, inverse, made, Fits, applied, state_at, IsRunnable}
use Rattle.nd_steps.specs.declared.change.Change.{Change}
use Rattle.nd_steps.proofs.PlacesLemmas.{SameShape, shape-itself, shape-turned, shape-through, shape-put, there_alike, same_state, standing-put, standing-put_at, may_stand}

-- ---- one change, applied and undone

pub shape-made : (s : ClusterState) (c : Change) → SameShape (made s c) s
shape-made s c = shape-put s (place_of c) (standing s (place_of c) +ℤ c.n)

fits_there : (s : ClusterState) (c : Change) → Fits s c → IsThere s (place_of c)
fits_there s c fits = (fits.owner, fits.inside.there)

pub landed : (s : ClusterState) (c : Change) → Fits s c → standing (made s c) (place_of c) ≡ standing s (place_of c) +ℤ c.n
landed s c fits = standing-put s (place_of c) (standing s (place_of c) +ℤ c.n) (fits_there s c fits) fits.inside.may

pub moved_by : (s : ClusterState) (c : Change) (k : Place) → Fits s c → standing (made s c) k ≡ cond (eq_by_cmp place_cmp k (place_of c)) (standing s (place_of c) +ℤ c.n) (standing s k)
moved_by s c k fits = standing-put_at s (place_of c) (standing s (place_of c) +ℤ c.n) k (fits_there s c fits) fits.inside.may

taken_again : (x y g : ℤ) → y ≡ x +ℤ g → y +ℤ neg_ℤ g ≡ x
taken_again x y g e = omega (arith, ints, e)

-- the integer that was there before
pub stood : (s : ClusterState) (c : Change) → Fits s c → standing (made s c) (place_of c) +ℤ neg_ℤ (c.n) ≡ standing s (place_of c)
stood s c fits = taken_again (standing s (place_of c)) (standing (made s c) (place_of c)) (c.n) (landed s c fits)

none_back : (n : ℤ) → neg_ℤ n ≡ pos 0 → n ≡ pos 0
none_back n e = omega (arith, ints, e)

-- the inverse of an applied change fits, and leads back
module _ (s : ClusterState) (c : Change) (fits : Fits s c) where
  back_there : IsThere (made s c) (place_of c)
  back_there = there_alike s (made s c) (place_of c) (shape-turned (made s c) s (shape-made s c)) (fits_there s c fits)

  pub fits_back : Fits (made s c) (inverse c)
  fits_back = record {
    owner = back_there.0;
    inside = record {
      there = back_there.1;
      some = λ e. fits.inside.some (none_back c.n e);
      before = subst (SlotWithin c.slot) (sym (landed s c fits)) fits.inside.within;
      may = subst (SlotMay c.slot) (sym (stood s c fits)) (may_stand s (place_of c));
      within = subst (SlotWithin c.slot) (sym (stood s c fits)) fits.inside.before;
    };
  }

  pub made_back : made (made s c) (inverse c) ≡ s
  made_back =
      let k = place_of c in
      let t = made s c in
      ap (put_at t k) (stood s c fits)
      ∙ same_state (put_at t k (standing s k)) s (shape-through (put_at t k (standing s k)) t s (shape-put t k (standing s k)) (shape-made s c)) (λ j.
      standing-put_at t k (standing s k) j back_there (may_stand s k) ∙ ap (cond (eq_by_cmp place_cmp j k) (standing s k)) (moved_by s c j fits)
      ∙ again (eq_by_cmp place_cmp j k) _ (standing s k) (standing s j) (λ e. ap (standing s) (sym (tells_apart place_exact j k e))))

-- ---- a list of changes

pub applied-push : (s : ClusterState) (cs : List Change) (c : Change) → applied s (cs ++ c ∷ []) ≡ made (applied s cs) c
unfolding applied
applied-push s [] c = refl
applied-push s (d ∷ cs) c = applied-push (made s d) cs c

pub shape-applied : (s : ClusterState) (cs : List Change) → SameShape (applied s cs) s
unfolding applied
shape-applied s [] = shape-itself s
shape-applied s (c ∷ cs) = shape-through (applied (made s c) cs) (made s c) s (shape-applied (made s c) cs) (shape-made s c)

pub state_none : (s : ClusterState) (cs : List Change) → state_at s cs 0 ≡ s
unfolding applied state_at
state_none s cs = refl

pub state_more : (s : ClusterState) (cs : List Change) (k : ℕ) (d : Change) → k < length cs → state_at s cs (k + 1) ≡ made (state_at s cs k) (get_or cs k d)
unfolding state_at
state_more s cs k d lt = ap (applied s) (take_more cs k d lt) ∙ applied-push s (take k cs) (get_or cs k d)

pub all_made : (s : ClusterState) (cs : List Change) (k : ℕ) → length cs ≤ k → state_at s cs k ≡ applied s cs
unfolding state_at
all_made s cs k past = ap (applied s) (take_all k cs past)

-- ---- a change of the list, in a state that equals the one there

-- a change of the list as it is read
pub read_as : (cs : List Change) (k : ℕ) (r c : Change) → c ≡ r → r ≡ get_or cs k r → c ≡ get_or cs k c
read_as cs k r c e is = subst (λ d. d ≡ get_or cs k d) (sym e) is

module _ (s : ClusterState) (cs : List Change) (runs : IsRunnable s cs) (k : ℕ) (c : Change) (is : c ≡ get_or cs k c) (lt : k < length cs) (t : ClusterState) where
  fits_there_now : Fits (state_at s cs k) c
  fits_there_now = subst (Fits (state_at s cs k)) (sym is) (runs.fits k c lt)

  next : state_at s cs (k + 1) ≡ made (state_at s cs k) c
  next = state_more s cs k c lt ∙ ap (made (state_at s cs k)) (sym is)

  pub fits_now : t ≡ state_at s cs k → Fits t c
  fits_now now = subst (λ u. Fits u c) (sym now) fits_there_now

  pub next_here : t ≡ state_at s cs k → made t c ≡ state_at s cs (k + 1)
  next_here now = ap (λ u. made u c) now ∙ sym next

  module _ (i : ℕ) (above : i ≡ k + 1) (now : t ≡ state_at s cs i) where
    from_above : t ≡ made (state_at s cs k) c
    from_above = now ∙ ap (state_at s cs) above ∙ next

    pub fits_here : Fits t (inverse c)
    fits_here = subst (λ u. Fits u (inverse c)) (sym from_above) (fits_back (state_at s cs k) c fits_there_now)

    pub back_here : made t (inverse c) ≡ state_at s cs k
    back_here = ap (λ u. made u (inverse c)) from_above ∙ made_back (state_at s cs k) c fits_there_now
