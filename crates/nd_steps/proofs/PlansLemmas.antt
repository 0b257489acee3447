-- A list of changes in which no place occurs twice can be applied, if everything is added before anything is removed, and leads
-- where its sums say.
use Rattle.std.proofs.Common.{◌≡◌, ◌≢◌, ◌<◌, ◌≤◌, ◌+◌, ℕ, suc, ℤ, pos, ◌+ℤ◌, ◌-ℤ◌, Bool, true, false, cond, List, [], ◌∷◌, take, length, get_or, T, Option, Some, None, is_some, refl, sym, ap, subst, ◌∙◌, arith, inl, inr, true≢false}
use Rattle.std.proofs.lemmas.Int.{ints}
use Rattle.std.proofs.lemmas.Map.Views.{tells_apart}
use Rattle.std.specs.Ordering.{eq_by_cmp}
use Rattle.std.specs.List.Sorted.{IsPermutation}
use Rattle.std.specs.FinMap.{find, is_sorted}
use Rattle.std.specs.FinMap.Entries.{put, is_sorted-put, find-put, length-put}
use Rattle.nd_map.specs.Cases.{zero_or_not}
use Rattle.nd_map.specs.Counts.{or_else, entries, size}
use Rattle.nd_protocol.specs.State.{ClusterState}
use Rattle.nd_steps.specs.Places.{Place, place_cmp, place_total, place_exact, is_place}
use Rattle.nd_steps.proofs.AlikeLemmas.{same_key}
use Rattle.nd_steps.specs.Slots.{SlotMay}
use Rattle.nd_steps.specs.Integers.{standing, IsThere, difference}
use Rattle.nd_steps.specs.Changes.{place_of, made, Fits, Finds, applied, state_at, IsRunnable}
use Rattle.nd_steps.specs.Limits.{after, CountStays, EntryStays}
use Rattle.nd_steps.specs.Plans.{often, total_at, Once, Each, StaysRanged, Reaches, LeadsTo}
use Rattle.nd_steps.specs.Turns.{IsInOrder}
use Rattle.nd_steps.specs.Undos.{IsGain}
use Rattle.nd_steps.specs.declared.change.Change.{Change}
use Rattle.nd_steps.proofs.PlacesLemmas.{SameShape, shape-turned, shape-through, there_alike, there_where, same_state, may_stand}
use Rattle.nd_steps.proofs.CountsLemmas.{queues_same}
use Rattle.nd_steps.proofs.IntegersLemmas.{difference-listed}
use Rattle.nd_steps.proofs.RunsLemmas.{shape-applied, landed, moved_by, state_more}
use Rattle.nd_steps.proofs.EachLemmas.{plus_none, each_at, each_take, each_from, each_through, each_moved, often_moved, total_moved, not_there, rest_none, never_added, often_before, gain_alone, untouched, fits_moved}
use Rattle.nd_steps.proofs.LimitsLemmas.{slot_within}

-- changes that reach a state preserve the shape
shape_of : (s t : ClusterState) (cs : List Change) → Reaches s t cs → SameShape s t
shape_of s t cs h = record { graph = sym h.graph; processors = sym h.count; items = λ p. sym (h.items p); views = ap length (sym h.views); queues = sym h.queues }

-- ---- a list that can be applied

pub after_is : (s : ClusterState) (c : Change) → after s.processors c ≡ standing s (place_of c) +ℤ c.n
unfolding after
after_is s c = refl

none_left : (x n z : ℤ) → z ≡ x +ℤ n → z ≡ pos 0 → x ≡ pos 0 → n ≡ pos 0
none_left x n z e f g = omega (arith, ints, e, f, g)

-- after the first changes the integer at their place is not 0, and before the others it is not 0
module _ (s : ClusterState) (cs : List Change) (once : Once cs) (fit : Each (Fits s) cs) (turn : ℕ)
    (leave : (k : ℕ) (d : Change) → k < length cs → k < turn → standing s (place_of (get_or cs k d)) +ℤ (get_or cs k d).n ≢ pos 0)
    (find : (k : ℕ) (d : Change) → k < length cs → turn ≤ k → standing s (place_of (get_or cs k d)) ≢ pos 0) where
  module _ (k : ℕ) (d : Change) (lt : k < length cs) where
    abbrev at : Change
    at = get_or cs k d

    fits_at : Fits s at
    fits_at = each_at (Fits s) cs k d fit lt

    untouched_at : standing (state_at s cs k) (place_of at) ≡ standing s (place_of at)
    unfolding state_at
    untouched_at =
        untouched s (take k cs) (place_of at)
        (each_take (λ c. IsThere s (place_of c)) cs k (each_through (Fits s) (λ c. IsThere s (place_of c)) (λ c h. (h.owner, h.inside.there)) cs fit))
        (often_before cs once k d lt)

    fits_in_turn : Fits (state_at s cs k) at
    unfolding state_at
    fits_in_turn = fits_moved s (state_at s cs k) at (shape-applied s (take k cs)) untouched_at fits_at

    leaves_in_turn : k < turn → Finds (state_at s cs (k + 1)) at
    leaves_in_turn first none =
        leave k d lt first
        (ap (λ z. z +ℤ at.n) (sym untouched_at) ∙ sym (landed (state_at s cs k) at fits_in_turn) ∙ ap (λ t. standing t (place_of at)) (sym (state_more s cs k d lt)) ∙ none)

    finds_in_turn : turn ≤ k → Finds (state_at s cs k) at
    finds_in_turn past none = find k d lt past (sym untouched_at ∙ none)

  pub runnable : IsRunnable s cs
  runnable = record { turn = turn; fits = fits_in_turn; leaves = leaves_in_turn; finds = finds_in_turn }

-- ---- where the list leads

none_plus : (x : ℤ) → pos 0 +ℤ x ≡ x
none_plus x = omega (arith, ints)

by_key : (b : Bool) (x y g : ℤ) → (b ≡ true → y ≡ x) → cond b (y +ℤ g) x ≡ x +ℤ cond b g (pos 0)
by_key true x y g e = ap (λ z. z +ℤ g) (e refl)
by_key false x y g e = sym (plus_none x)

moved_more : (t : ClusterState) (k : Place) (c : Change) → Fits t c → standing (made t c) k ≡ standing t k +ℤ cond (eq_by_cmp place_cmp k (place_of c)) (c.n) (pos 0)
moved_more t k c fits =
    moved_by t c k fits
    ∙ by_key (eq_by_cmp place_cmp k (place_of c)) (standing t k) (standing t (place_of c)) (c.n) (λ e. ap (standing t) (sym (tells_apart place_exact k (place_of c) e)))

-- changes that fit, one after the other, add what they add together
pub moved : (s : ClusterState) (cs : List Change) → ((k : ℕ) (d : Change) → k < length cs → Fits (state_at s cs k) (get_or cs k d)) → (j : Place) → standing (applied s cs) j ≡ standing s j +ℤ total_at j cs
unfolding applied state_at
moved s [] fits j = sym (plus_none (standing s j))
moved s (c ∷ cs) fits j =
    let first : standing (made s c) j ≡ standing s j +ℤ cond (is_place j (place_of c)) c.n (pos 0) = moved_more s j c (fits 0 c (omega arith)) in
    let rest = moved (made s c) cs (λ k d lt. fits (suc k) d (omega (arith, lt))) j in
    omega (arith, ints, first, rest)

-- ---- as many changes as places at which the states differ

-- the changes' integers in the order of their places
unfoldable pub sorted : List Change → List (Place × ℤ)
sorted [] = []
sorted (c ∷ cs) = put place_cmp (place_of c) (c.n) (sorted cs)

sorted_is : (cs : List Change) → T (is_sorted place_cmp (sorted cs))
unfolding sorted
sorted_is [] = tt
sorted_is (c ∷ cs) = is_sorted-put place_cmp place_total (place_of c) (c.n) (sorted cs) (sorted_is cs)

none_found : (b : Bool) (v : ℤ) (x : Option ℤ) → b ≡ false → x ≡ None → cond b (Some v) x ≡ None
none_found true v x e h = absurd (true≢false e)
none_found false v x e h = h

sorted_without : (cs : List Change) (k : Place) → often k cs ≡ 0 → find place_cmp k (sorted cs) ≡ None
unfolding sorted
sorted_without [] k e = refl
sorted_without (c ∷ cs) k e =
    find-put place_cmp place_total k (place_of c) (c.n) (sorted cs)
    ∙ none_found (eq_by_cmp place_cmp k (place_of c)) (c.n) _ (not_there (eq_by_cmp place_cmp k (place_of c)) (often k cs) e)
    (sorted_without cs k (rest_none (eq_by_cmp place_cmp k (place_of c)) (often k cs) e))

less_often : (b : Bool) (n : ℕ) → cond b 1 0 + n ≤ 1 → n ≤ 1
less_often true n h = omega (arith, h)
less_often false n h = omega (arith, h)

pub once_tail : (c : Change) (cs : List Change) → Once (c ∷ cs) → Once cs
once_tail c cs once k = less_often (eq_by_cmp place_cmp k (place_of c)) (often k cs) (once k)

pub alone_there : (b : Bool) (n : ℕ) → b ≡ true → cond b 1 0 + n ≤ 1 → n ≡ 0
alone_there true n e h = omega (arith, h)
alone_there false n e h = absurd (true≢false (sym e))

by_found : (b : Bool) (g w : ℤ) (x : Option ℤ) → (b ≡ true → w ≡ pos 0) → or_else (pos 0) x ≡ w → or_else (pos 0) (cond b (Some g) x) ≡ cond b g (pos 0) +ℤ w
by_found true g w x e h = sym (ap (λ z. g +ℤ z) (e refl) ∙ plus_none g)
by_found false g w x e h = h ∙ sym (none_plus w)

-- what a lookup finds among them is what the list adds
sorted_found : (cs : List Change) → Once cs → (k : Place) → or_else (pos 0) (find place_cmp k (sorted cs)) ≡ total_at k cs
unfolding sorted
sorted_found [] once k = refl
sorted_found (c ∷ cs) once k =
    ap (or_else (pos 0)) (find-put place_cmp place_total k (place_of c) (c.n) (sorted cs))
    ∙ by_found (eq_by_cmp place_cmp k (place_of c)) (c.n) (total_at k cs) (find place_cmp k (sorted cs))
    (λ e. never_added k cs (alone_there (eq_by_cmp place_cmp k (place_of c)) (often k cs) e (once k)))
    (sorted_found cs (once_tail c cs once) k)

kept_some : (b : Bool) (v : ℤ) (x : Option ℤ) → v ≢ pos 0 → x ≢ Some (pos 0) → cond b (Some v) x ≢ Some (pos 0)
kept_some true v x p q e = p (ap (or_else (pos 0)) e)
kept_some false v x p q e = q e

sorted_some : (cs : List Change) → Each (λ c. c.n ≢ pos 0) cs → (k : Place) → find place_cmp k (sorted cs) ≢ Some (pos 0)
unfolding sorted
sorted_some [] some k e = cc
sorted_some (c ∷ cs) some k e =
    kept_some (eq_by_cmp place_cmp k (place_of c)) (c.n) (find place_cmp k (sorted cs)) some.0 (sorted_some cs some.1 k)
    (sym (find-put place_cmp place_total k (place_of c) (c.n) (sorted cs)) ∙ e)

sorted_length : (cs : List Change) → Once cs → length (sorted cs) ≡ length cs
unfolding sorted
sorted_length [] once = refl
sorted_length (c ∷ cs) once =
    let none : often (place_of c) cs ≡ 0 = alone_there (eq_by_cmp place_cmp (place_of c) (place_of c)) (often (place_of c) cs) (same_key place_total (place_of c)) (once (place_of c)) in
    let more : length cs + 1 ≡ suc (length cs) = omega arith in
    length-put place_cmp place_total (place_of c) (c.n) (sorted cs) (sorted_is cs)
    ∙ ap (λ x. cond (is_some x) (length (sorted cs)) (length (sorted cs) + 1)) (sorted_without cs (place_of c) none)
    ∙ ap (λ n. n + 1) (sorted_length cs (once_tail c cs once)) ∙ more

less_by : (x y z : ℤ) → y ≡ x +ℤ z → z ≡ y -ℤ x
less_by x y z e = omega (arith, ints, e)

-- they are the entries of the difference of the states
pub sorted_entries : (s t : ClusterState) (cs : List Change) → Once cs → Each (λ c. c.n ≢ pos 0) cs → ((k : Place) → standing t k ≡ standing s k +ℤ total_at k cs) → entries (difference s t) ≡ sorted cs
sorted_entries s t cs once some totals =
    difference-listed s t (sorted cs) (sorted_is cs) (sorted_some cs some) (λ k. sorted_found cs once k ∙ less_by (standing s k) (standing t k) (total_at k cs) (totals k))

pub as_many : (s t : ClusterState) (cs : List Change) → Once cs → Each (λ c. c.n ≢ pos 0) cs → ((k : Place) → standing t k ≡ standing s k +ℤ total_at k cs) → length cs ≡ size (difference s t)
as_many s t cs once some totals = sym (sorted_length cs once) ∙ ap length (sym (sorted_entries s t cs once some totals))

-- ---- the plan

module _ (s t : ClusterState) (cs : List Change) (h : Reaches s t cs) where
  -- the map that a change alters exists
  pub there_by : (k : ℕ) (d : Change) → k < length cs → IsThere s (place_of (get_or cs k d))
  there_by k d lt =
      let c : Change = get_or cs k d in
      let then : standing t (place_of c) ≡ standing s (place_of c) +ℤ c.n = h.totals (place_of c) ∙ ap (λ z. standing s (place_of c) +ℤ z) (gain_alone cs h.once k d lt) in
      elim (zero_or_not (standing s (place_of c))) [
        | inr some ↦ there_where s (place_of c) some
        | inl none ↦
            there_alike t s (place_of c) (shape-turned s t (shape_of s t cs h))
            (there_where t (place_of c) (λ e. each_at (λ c. c.n ≢ pos 0) cs k d h.some lt (none_left (standing s (place_of c)) c.n (standing t (place_of c)) then e none)))
      ]

  each_fits : Each (CountStays s.processors) cs → Each (EntryStays s.processors) cs → Each (Fits s) cs
  unfolding after
  each_fits counts entries = each_from (Fits s) cs (λ k d lt.
      let c : Change = get_or cs k d in
      let there = there_by k d lt in
      let then : standing t (place_of c) ≡ standing s (place_of c) +ℤ c.n = h.totals (place_of c) ∙ ap (λ z. standing s (place_of c) +ℤ z) (gain_alone cs h.once k d lt) in
      record {
        owner = there.0;
        inside = record {
          there = there.1;
          some = each_at (λ c. c.n ≢ pos 0) cs k d h.some lt;
          before = slot_within s h.state c.p c.slot;
          may = subst (SlotMay c.slot) then (may_stand t (place_of c));
          within = record {
            count = each_at (CountStays s.processors) cs k d counts lt;
            entry = each_at (EntryStays s.processors) cs k d entries lt;
            ranged = each_at (StaysRanged s) cs k d h.ranged lt;
          };
        };
      })

  -- the changes can be applied, lead to t, and are as many as the places and queues at which it differs
  module _ (counts : Each (CountStays s.processors) cs) (entries : Each (EntryStays s.processors) cs) (turn : ℕ)
      (leave : (k : ℕ) (d : Change) → k < length cs → k < turn → standing s (place_of (get_or cs k d)) +ℤ (get_or cs k d).n ≢ pos 0)
      (find : (k : ℕ) (d : Change) → k < length cs → turn ≤ k → standing s (place_of (get_or cs k d)) ≢ pos 0) where
    runs_so : IsRunnable s cs
    runs_so = runnable s cs h.once (each_fits counts entries) turn leave find

    pub planned_so : LeadsTo s t cs
    planned_so = record {
      runs = runs_so;
      arrives = same_state (applied s cs) t (shape-through (applied s cs) s t (shape-applied s cs) (shape_of s t cs h)) (λ k. moved s cs runs_so.fits k ∙ sym (h.totals k));
      small = (let keys = as_many s t cs h.once h.some h.totals in let ends = queues_same s t h.queues in omega (arith, keys, ends));
    }

-- changes reach a state in any order
pub reaches_moved : (s t : ClusterState) (all cs : List Change) → Reaches s t all → IsPermutation all cs → Reaches s t cs
reaches_moved s t all cs h same = record {
  state = h.state;
  graph = h.graph;
  views = h.views;
  queues = h.queues;
  count = h.count;
  items = h.items;
  once = λ k. subst (λ n. n ≤ 1) (sym (often_moved k all cs same)) (h.once k);
  some = each_moved (λ c. c.n ≢ pos 0) all cs same h.some;
  small = each_moved (λ c. IsGain c.n) all cs same h.small;
  ranged = each_moved (StaysRanged s) all cs same h.ranged;
  totals = λ k. h.totals k ∙ ap (λ z. standing s k +ℤ z) (sym (total_moved k all cs same));
}

-- changes in order lead to t
pub planned : (s t : ClusterState) (all cs : List Change) → Reaches s t all → IsInOrder s.processors all cs → Each (CountStays s.processors) all → Each (EntryStays s.processors) all → LeadsTo s t cs
planned s t all cs h order counts entries =
    let now : Reaches s t cs = reaches_moved s t all cs h order.same in
    planned_so s t cs now (each_moved (CountStays s.processors) all cs order.same counts) (each_moved (EntryStays s.processors) all cs order.same entries) order.turn
    (λ k d lt first none. order.leaves k d lt first (after_is s (get_or cs k d) ∙ none))
    (λ k d lt past none.
    each_at (λ c. c.n ≢ pos 0) cs k d now.some lt (none_left (standing s (place_of (get_or cs k d))) (get_or cs k d).n (after s.processors (get_or cs k d)) (after_is s (get_or cs k d)) (order.goes k d lt past) none))
