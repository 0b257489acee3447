-- At how many places and queues two states differ: at one place for each entry of a change that one of them has more there, and
-- at each queue that is longer or shorter.
--     keys_changed                       the places
--     alike_queues, unlike_queues        one queue
--     none_below, each_below, one_below  the sums over queues
use Rattle.std.proofs.Common.{◌≡◌, ◌≢◌, ◌<◌, ◌⊎◌, ℕ, zero, suc, ℤ, pos, ◌+ℤ◌, ◌-ℤ◌, Bool, true, false, cond, ◌&&◌, T, List, [], ◌∷◌, Option, Some, None, map, length, refl, sym, ap, subst, ◌∙◌, arith, inl, inr, true≢false, Ordering, Less, Equal, Greater}
use Rattle.std.proofs.lemmas.Int.{ints}
use Rattle.std.proofs.lemmas.Bool.{cases_eq}
use Rattle.std.proofs.lemmas.Cmp.{tied_itself, nat_cmp_total, int_cmp_total, on_total, then_total, lists_total}
use Rattle.std.proofs.lemmas.List.{length-map}
use Rattle.std.specs.Ordering.{nat_cmp, eq_by_cmp, is_eq, is_lt, ordering_then}
use Rattle.std.specs.Cmp.{IsTotalOrder}
use Rattle.std.specs.Cmp.Lexicographic.{slice_cmp}
use Rattle.std.specs.FinMap.{find, is_sorted}
use Rattle.std.specs.FinMap.Entries.{below_all}
use Rattle.nd_map.specs.Counts.{or_else, entries, size as keys}
use Rattle.nd_paths.specs.Point.{point_cmp, point_total}
use Rattle.nd_paths.specs.declared.point.Pointstamp.{Pointstamp}
use Rattle.nd_delta.specs.Delta.{DeltaValue, at as in_change, entries as listed, size, or_zero, at-entries, sorted-entries, some-entry}
use Rattle.nd_protocol.specs.State.{ClusterState}
use Rattle.nd_steps.specs.Places.{Place, parts, place_cmp}
use Rattle.nd_steps.specs.Integers.{standing, difference, change_cmp, queue_cmp, sum_below}
use Rattle.nd_steps.proofs.IntegersLemmas.{difference-listed}
use Rattle.nd_steps.specs.Places.{is_place}
use Rattle.nd_steps.proofs.AlikeLemmas.{same_key, same_place, other_place, place_itself}

-- ---- keys

then_equal : (r : Ordering) → ordering_then r Equal ≡ r
then_equal Less = refl
then_equal Equal = refl
then_equal Greater = refl

-- pointstamps of one map of one processor compare as their places do
pub of_one_map : (p : ℕ) (r : Ordering) → ordering_then (nat_cmp p p) (ordering_then r Equal) ≡ r
of_one_map p r = ap (λ o. ordering_then o (ordering_then r Equal)) (tied_itself nat_cmp_total p) ∙ then_equal r

-- the pointstamp among a place's parts
abbrev pub point_of : Place → Pointstamp
point_of k = (parts k).1.1.0

-- the place is not f x for any x
abbrev pub IsNone : (Pointstamp → Place) → Place → Type 0
IsNone f k = (x : Pointstamp) → is_place k (f x) ≡ false

-- the entries of a change at the places f x, each with what it adds there
module _ (f : Pointstamp → Place) (alike : (a b : Pointstamp) → place_cmp (f a) (f b) ≡ point_cmp a b) (back : (x : Pointstamp) → point_of (f x) ≡ x) (g : ℤ → ℤ) where
  at_places : List (Pointstamp × ℤ) → List (Place × ℤ)
  at_places es = map (λ e. (f e.0, g e.1)) es

  below_alike : (k : Pointstamp) (es : List (Pointstamp × ℤ)) → below_all place_cmp (f k) (at_places es) ≡ below_all point_cmp k es
  unfolding at_places
  below_alike k [] = refl
  below_alike k (e ∷ es) = λ i. is_lt (alike k e.0 i) && below_alike k es i

  sorted_alike : (es : List (Pointstamp × ℤ)) → is_sorted place_cmp (at_places es) ≡ is_sorted point_cmp es
  unfolding at_places
  sorted_alike [] = refl
  sorted_alike (e ∷ es) = λ i. below_alike e.0 es i && sorted_alike es i

  abbrev moved : Option ℤ → Option ℤ
  moved None = None
  moved (Some z) = Some (g z)

  moved-cond : (b : Bool) (z : ℤ) (x : Option ℤ) → cond b (Some (g z)) (moved x) ≡ moved (cond b (Some z) x)
  moved-cond true z x = refl
  moved-cond false z x = refl

  found_here : (es : List (Pointstamp × ℤ)) (x : Pointstamp) → find place_cmp (f x) (at_places es) ≡ moved (find point_cmp x es)
  unfolding at_places
  found_here [] x = refl
  found_here (e ∷ es) x = (λ i. cond (is_eq (alike x e.0 i)) (Some (g e.1)) (found_here es x i)) ∙ moved-cond (eq_by_cmp point_cmp x e.0) e.1 (find point_cmp x es)

  found_elsewhere : (es : List (Pointstamp × ℤ)) (k : Place) → IsNone f k → find place_cmp k (at_places es) ≡ None
  unfolding at_places
  found_elsewhere [] k apart = refl
  found_elsewhere (e ∷ es) k apart = ap (λ b. cond b (Some (g e.1)) (find place_cmp k (at_places es))) (apart e.0) ∙ found_elsewhere es k apart

  -- a place is one of these or not
  which : (k : Place) → ((x : Pointstamp) × (k ≡ f x)) ⊎ IsNone f k
  which k = elim (is_place k (f (point_of k))) as (λ b. is_place k (f (point_of k)) ≡ b → ((x : Pointstamp) × (k ≡ f x)) ⊎ IsNone f k) [
    | true ↦ λ t. inl (point_of k, same_place k (f (point_of k)) t)
    | false ↦ λ t. inr (λ x. other_place k (f x) (λ e. true≢false (sym (place_itself k) ∙ ap (is_place k) (e ∙ ap f (sym (ap point_of e ∙ back x))) ∙ t)))
  ] refl

  module _ (nothing : g (pos 0) ≡ pos 0) (something : (z : ℤ) → g z ≡ pos 0 → z ≡ pos 0) (c : DeltaValue) where
    found_more : (x : Option ℤ) → or_else (pos 0) (moved x) ≡ g (or_zero x)
    found_more None = sym nothing
    found_more (Some z) = refl

    moved_some : (o : Option ℤ) → ((z : ℤ) → o ≡ Some z → z ≢ pos 0) → moved o ≢ Some (pos 0)
    moved_some None some e = cc
    moved_some (Some z) some e = some z refl (something z (ap (or_else (pos 0)) e))

    no_zero : (k : Place) → find place_cmp k (at_places (listed c)) ≢ Some (pos 0)
    no_zero k e = elim (which k) [
      | inl h ↦ moved_some (find point_cmp h.0 (listed c)) (some-entry c h.0) (sym (found_here (listed c) h.0) ∙ ap (λ j. find place_cmp j (at_places (listed c))) (sym h.1) ∙ e)
      | inr apart ↦ absurd (cc (e, found_elsewhere (listed c) k apart))
    ]

    module _ (s t : ClusterState) (here : (x : Pointstamp) → standing t (f x) ≡ standing s (f x) +ℤ g (in_change c x)) (others : (k : Place) → IsNone f k → standing t k ≡ standing s k) where
      less_by : (x y z : ℤ) → y ≡ x +ℤ z → z ≡ y -ℤ x
      less_by x y z e = omega (arith, ints, e)

      less_none : (x y : ℤ) → y ≡ x → pos 0 ≡ y -ℤ x
      less_none x y e = omega (arith, ints, e)

      found : (k : Place) → or_else (pos 0) (find place_cmp k (at_places (listed c))) ≡ standing t k -ℤ standing s k
      found k = elim (which k) [
        | inl h ↦ subst (λ j. or_else (pos 0) (find place_cmp j (at_places (listed c))) ≡ standing t j -ℤ standing s j) (sym h.1)
            (ap (or_else (pos 0)) (found_here (listed c) h.0) ∙ found_more (find point_cmp h.0 (listed c)) ∙ ap g (at-entries c h.0)
            ∙ less_by (standing s (f h.0)) (standing t (f h.0)) (g (in_change c h.0)) (here h.0))
        | inr apart ↦ ap (or_else (pos 0)) (found_elsewhere (listed c) k apart) ∙ less_none (standing s k) (standing t k) (others k apart)
      ]

      -- the entries are the difference of the states
      pub entries_changed : entries (difference s t) ≡ map (λ e. (f e.0, g e.1)) (listed c)
      unfolding at_places
      entries_changed = difference-listed s t (at_places (listed c)) (subst T (sym (sorted_alike (listed c))) (sorted-entries c)) no_zero found

      -- the states differ at one key for each entry
      pub keys_changed : keys (difference s t) ≡ size c
      keys_changed = ap length entries_changed ∙ length-map (listed c) _

-- ---- queues

pub queue_total : IsTotalOrder queue_cmp
queue_total = lists_total (on_total listed (lists_total (then_total (on_total (λ (e : Pointstamp × ℤ). e.0) point_total) (on_total (λ e. e.1) int_cmp_total))))

then_second : (a b : Ordering) → is_eq (ordering_then a b) ≡ true → is_eq b ≡ true
then_second Less b e = absurd (true≢false (sym e))
then_second Equal b e = e
then_second Greater b e = absurd (true≢false (sym e))

-- lists that compare as equal have the same length
as_long : {X : Type 0} (R : X → X → Ordering) (xs ys : List X) → eq_by_cmp (slice_cmp R) xs ys ≡ true → length xs ≡ length ys
as_long R [] [] e = refl
as_long R [] (y ∷ ys) e = absurd (true≢false (sym e))
as_long R (x ∷ xs) [] e = absurd (true≢false (sym e))
as_long R (x ∷ xs) (y ∷ ys) e = ap suc (as_long R xs ys (then_second (R x y) (slice_cmp R xs ys) e))

abbrev from_test : Bool → ℕ
from_test b = cond b 0 1

-- 1 for queues that differ
abbrev pub differs : List DeltaValue → List DeltaValue → ℕ
differs a b = from_test (eq_by_cmp queue_cmp a b)

pub alike_queues : (a b : List DeltaValue) → b ≡ a → differs a b ≡ 0
alike_queues a b e = ap (differs a) e ∙ ap from_test (same_key queue_total a)

pub unlike_queues : (a b : List DeltaValue) → length a ≢ length b → differs a b ≡ 1
unlike_queues a b apart = elim (eq_by_cmp queue_cmp a b) as (λ t. eq_by_cmp queue_cmp a b ≡ t → from_test t ≡ 1) [
  | true ↦ λ e. absurd (apart (as_long change_cmp a b e))
  | false ↦ λ e. refl
] refl

-- a sum of zeros; the next is a sum of ones
pub none_below : (n : ℕ) (f : ℕ → ℕ) → ((k : ℕ) → k < n → f k ≡ 0) → sum_below n f ≡ 0
none_below zero f h = refl
none_below (suc n) f h =
    let a = none_below n f (λ k lt. h k (omega (arith, lt))) in
    let b = h n (omega arith) in
    omega (arith, a, b)

pub each_below : (n : ℕ) (f : ℕ → ℕ) → ((k : ℕ) → k < n → f k ≡ 1) → sum_below n f ≡ n
each_below zero f h = refl
each_below (suc n) f h =
    let a = each_below n f (λ k lt. h k (omega (arith, lt))) in
    let b = h n (omega arith) in
    omega (arith, a, b)

-- a sum in which only one number is not 0
pub one_below : (n i : ℕ) (f : ℕ → ℕ) → i < n → ((k : ℕ) → k < n → k ≢ i → f k ≡ 0) → sum_below n f ≡ f i
one_below zero i f lt h = absurd (omega (arith, lt))
one_below (suc n) i f lt h = elim (cases_eq i n) [
  | inl e ↦
      let a = none_below n f (λ k below. h k (omega (arith, below)) (λ is. omega (arith, below, is, e))) in
      let b : f n ≡ f i = ap f (sym e) in
      omega (arith, a, b)
  | inr other ↦
      let less : i < n = omega (arith, lt, other) in
      let a = one_below n i f less (λ k below. h k (omega (arith, below))) in
      let b = h n (omega arith) (λ is. other (sym is)) in
      omega (arith, a, b)
]
