-- The map of the breakpoints in slots.
use Rattle.std.proofs.Common.{◌≡◌, ◌≢◌, ◌<◌, ◌≤◌, ℕ, zero, suc, ◌+◌, List, [], ◌∷◌, ◌++◌, Option, Some, None, true, false, cond, Less, Equal, Greater, inl, inr, length, get_or, drop, length-set, refl, sym, ap, subst, ◌∙◌, arith}
use Rattle.std.specs.Prelude.{slice_set}
use Rattle.std.specs.List.{refill}
use Rattle.std.specs.Ordering.{nat_cmp, eq_by_cmp, is_eq}
use Rattle.std.specs.FinMap as fin
use Rattle.std.proofs.lemmas.Bool.{cases_lt}
use Rattle.std.proofs.lemmas.Cmp.{nat_cmp_total, tied_itself}
use Rattle.std.proofs.lemmas.List.{take-append-le, take_all}
use Rattle.nd_breaks.specs.Breaks.{BreakMap, NoneFrom, IsLeastFree}
use Rattle.nd_breaks.specs.Slots.{from_slots}
use Rattle.nd_breaks.specs.Conditions.{ConditionValue}

-- the content of a slot, `None` after the last
abbrev pub slot_at : List (Option ConditionValue) → ℕ → Option ConditionValue
slot_at [] i = None
slot_at (o ∷ os) zero = o
slot_at (o ∷ os) (suc i) = slot_at os i

less_not_equal : Less ≡ Equal → ⊥
less_not_equal e = cc

greater_not_equal : Greater ≡ Equal → ⊥
greater_not_equal e = cc

other : (q k : ℕ) → q ≢ k → eq_by_cmp nat_cmp q k ≡ false
other q k ne =
    elim (nat_cmp q k) as (λ r. nat_cmp q k ≡ r → is_eq r ≡ false) [
      | Less ↦ λ _. refl
      | Equal ↦ λ e. absurd (ne (fin.nat_cmp-IsAntisymmetric q k e))
      | Greater ↦ λ _. refl
    ] refl

same : (k : ℕ) → eq_by_cmp nat_cmp k k ≡ true
same k = ap is_eq (tied_itself nat_cmp_total k)

-- no id before that of the first slot is set
get-before : (k : ℕ) (os : List (Option ConditionValue)) (q : ℕ) → q < k → fin.get (from_slots k os) q ≡ None
get-before k [] q lt = fin.get-empty nat_cmp q
get-before k (None ∷ os) q lt = get-before (suc k) os q (omega arith)
get-before k (Some b ∷ os) q lt =
    fin.get-insert nat_cmp_total (from_slots (suc k) os) k b q ∙ ap (λ t. cond t (Some b) (fin.get (from_slots (suc k) os) q)) (other q k (omega arith)) ∙ get-before (suc k) os q (omega arith)

-- the map at an id is the content of its slot
get-slot : (k : ℕ) (os : List (Option ConditionValue)) (i q : ℕ) → q ≡ k + i → fin.get (from_slots k os) q ≡ slot_at os i
get-slot k [] i q is = fin.get-empty nat_cmp q
get-slot k (None ∷ os) zero q is = get-before (suc k) os q (omega arith)
get-slot k (None ∷ os) (suc i) q is = get-slot (suc k) os i q (omega arith)
get-slot k (Some b ∷ os) zero q is =
    let here : q ≡ k = omega arith in
    fin.get-insert nat_cmp_total (from_slots (suc k) os) k b q ∙ ap (λ t. cond t (Some b) (fin.get (from_slots (suc k) os) q)) (ap (λ q. eq_by_cmp nat_cmp q k) here ∙ same k)
get-slot k (Some b ∷ os) (suc i) q is =
    fin.get-insert nat_cmp_total (from_slots (suc k) os) k b q ∙ ap (λ t. cond t (Some b) (fin.get (from_slots (suc k) os) q)) (other q k (omega arith)) ∙ get-slot (suc k) os i q (omega arith)

pub slot_is : (os : List (Option ConditionValue)) (i : ℕ) (o : Option ConditionValue) → i < length os → o ≡ get_or os i o → slot_at os i ≡ o
slot_is [] i o lt is = absurd (omega arith)
slot_is (p ∷ os) zero o lt is = sym is
slot_is (p ∷ os) (suc i) o lt is = slot_is os i o (omega arith) is

slot_past : (os : List (Option ConditionValue)) (i : ℕ) → length os ≤ i → slot_at os i ≡ None
slot_past [] i le = refl
slot_past (p ∷ os) zero le = absurd (omega arith)
slot_past (p ∷ os) (suc i) le = slot_past os i (omega arith)

-- ---- one slot changes

put-same : (os : List (Option ConditionValue)) (i : ℕ) (o : Option ConditionValue) → i < length os → slot_at (slice_set os i o) i ≡ o
put-same [] i o lt = absurd (omega arith)
put-same (p ∷ os) zero o lt = refl
put-same (p ∷ os) (suc i) o lt = put-same os i o (omega arith)

put-other : (os : List (Option ConditionValue)) (i q : ℕ) (o : Option ConditionValue) → q ≢ i → slot_at (slice_set os i o) q ≡ slot_at os q
put-other [] i q o ne = refl
put-other (p ∷ os) zero zero o ne = absurd (ne refl)
put-other (p ∷ os) zero (suc q) o ne = refl
put-other (p ∷ os) (suc i) zero o ne = refl
put-other (p ∷ os) (suc i) (suc q) o ne = put-other os i q o (λ e. ne (ap suc e))

push-same : (os : List (Option ConditionValue)) (q : ℕ) (o : Option ConditionValue) → q ≡ length os → slot_at (os ++ o ∷ []) q ≡ o
push-same [] zero o is = refl
push-same [] (suc q) o is = absurd (omega arith)
push-same (p ∷ os) zero o is = absurd (omega arith)
push-same (p ∷ os) (suc q) o is = push-same os q o (omega arith)

push-other : (os : List (Option ConditionValue)) (q : ℕ) (o : Option ConditionValue) → q ≢ length os → slot_at (os ++ o ∷ []) q ≡ slot_at os q
push-other [] zero o ne = absurd (ne refl)
push-other [] (suc q) o ne = refl
push-other (p ∷ os) zero o ne = refl
push-other (p ∷ os) (suc q) o ne = push-other os q o (λ e. ne (ap suc e))

differ : (os ps : List (Option ConditionValue)) (i : ℕ) (o : Option ConditionValue) → slot_at ps i ≡ o → ((q : ℕ) → q ≢ i → slot_at ps q ≡ slot_at os q) → (q : ℕ) → slot_at ps q ≡ cond (eq_by_cmp nat_cmp q i) o (slot_at os q)
differ os ps i o here others q =
    elim (nat_cmp q i) as (λ r. nat_cmp q i ≡ r → slot_at ps q ≡ cond (is_eq r) o (slot_at os q)) [
      | Less ↦ λ e. others q (λ at. let one : nat_cmp q i ≡ Equal = ap (λ q. nat_cmp q i) at ∙ tied_itself nat_cmp_total i in less_not_equal (sym e ∙ one))
      | Equal ↦ λ e. ap (slot_at ps) (fin.nat_cmp-IsAntisymmetric q i e) ∙ here
      | Greater ↦ λ e. others q (λ at. let one : nat_cmp q i ≡ Equal = ap (λ q. nat_cmp q i) at ∙ tied_itself nat_cmp_total i in greater_not_equal (sym e ∙ one))
    ] refl

inserted : (os ps : List (Option ConditionValue)) (i : ℕ) (b : ConditionValue) → slot_at ps i ≡ Some b → ((q : ℕ) → q ≢ i → slot_at ps q ≡ slot_at os q) → from_slots 0 ps ≡ fin.insert (from_slots 0 os) i b
inserted os ps i b here others =
    fin.same_map nat_cmp_total fin.nat_cmp-IsAntisymmetric _ _ (λ q.
    get-slot 0 ps q q (omega arith) ∙ differ os ps i (Some b) here others q
    ∙ sym (fin.get-insert nat_cmp_total (from_slots 0 os) i b q ∙ ap (cond (eq_by_cmp nat_cmp q i) (Some b)) (get-slot 0 os q q (omega arith))))

-- a breakpoint is written to a slot
set_put : (os : List (Option ConditionValue)) (i : ℕ) (b : ConditionValue) → i < length os → from_slots 0 (slice_set os i (Some b)) ≡ fin.insert (from_slots 0 os) i b
set_put os i b lt = inserted os (slice_set os i (Some b)) i b (put-same os i (Some b) lt) (λ q ne. put-other os i q (Some b) ne)

-- a slot is added at the end
set_push : (os : List (Option ConditionValue)) (i : ℕ) (b : ConditionValue) → i ≡ length os → from_slots 0 (os ++ Some b ∷ []) ≡ fin.insert (from_slots 0 os) i b
set_push os i b is = inserted os (os ++ Some b ∷ []) i b (push-same os i (Some b) is) (λ q ne. push-other os q (Some b) (λ e. ne (e ∙ sym is)))

-- a slot is cleared
cleared : (os : List (Option ConditionValue)) (i : ℕ) → i < length os → from_slots 0 (slice_set os i None) ≡ fin.remove (from_slots 0 os) i
cleared os i lt =
    fin.same_map nat_cmp_total fin.nat_cmp-IsAntisymmetric _ _ (λ q.
    get-slot 0 (slice_set os i None) q q (omega arith) ∙ differ os (slice_set os i None) i None (put-same os i None lt) (λ q ne. put-other os i q None ne) q
    ∙ sym (fin.get-remove nat_cmp_total (from_slots 0 os) i q ∙ ap (cond (eq_by_cmp nat_cmp q i) None) (get-slot 0 os q q (omega arith))))

slot_got : (os : List (Option ConditionValue)) (i : ℕ) (o : Option ConditionValue) → slot_at os i ≡ o → fin.get (from_slots 0 os) i ≡ o
slot_got os i o is = get-slot 0 os i i (omega arith) ∙ is

-- ---- the slots of a map

pub got : (os items : List (Option ConditionValue)) (m : BreakMap) (i : ℕ) (o : Option ConditionValue) → os ≡ items → from_slots 0 items ≡ m → slot_at os i ≡ o → fin.get m i ≡ o
got os items m i o same view at = sym (ap (λ m. fin.get m i) view) ∙ slot_got items i o (ap (λ xs. slot_at xs i) (sym same) ∙ at)

-- no id past the last slot is set
pub none_from : (os items : List (Option ConditionValue)) (m : BreakMap) (n : ℕ) → os ≡ items → from_slots 0 items ≡ m → length os ≤ n → NoneFrom m n
none_from os items m n same view le id more = got os items m id None same view (slot_past os id (omega (arith, le, more)))

-- an id that is set has a slot
pub within : (os items : List (Option ConditionValue)) (m : BreakMap) (i : ℕ) → os ≡ items → from_slots 0 items ≡ m → fin.get m i ≢ None → i < length os
within os items m i same view set =
    elim (cases_lt i (length os)) [
      | inl less ↦ less
      | inr more ↦ absurd (set (none_from os items m i same view more i (omega arith)))
    ]

-- if the least free id has no slot, it is the number of slots
pub next_at_most : (items : List (Option ConditionValue)) (m : BreakMap) (i : ℕ) → from_slots 0 items ≡ m → IsLeastFree m i → length items ≤ i → i ≡ length items
next_at_most items m i view free le =
    elim (cases_lt (length items) i) [
      | inl less ↦ absurd (free.least (length items) less (none_from items items m (length items) refl view (omega arith) (length items) (omega arith)))
      | inr more ↦ omega (arith, le, more)
    ]

-- ---- writes

refilled : (xs ws : List (Option ConditionValue)) → length ws ≡ length xs → refill (length xs) xs ws ≡ ws
refilled xs ws same =
    let le : length xs ≤ length ws = omega (arith, same) in
    let all : length ws ≤ length xs = omega (arith, same) in
    take-append-le (length xs) ws (drop (length ws) xs) le ∙ take_all (length xs) ws all

written : (items os ws : List (Option ConditionValue)) (i : ℕ) (o : Option ConditionValue) → os ≡ items → ws ≡ slice_set os i o → refill (length items) items ws ≡ slice_set items i o
written items os ws i o same is =
    let to : ws ≡ slice_set items i o = is ∙ ap (λ xs. slice_set xs i o) same in
    refilled items ws (ap length to ∙ length-set items i o) ∙ to

pub put_in : (items os ws : List (Option ConditionValue)) (n : ℕ) (m : BreakMap) (i : ℕ) (b : ConditionValue) → length os ≡ n → os ≡ items → ws ≡ slice_set os i (Some b) → from_slots 0 items ≡ m → i < length items → from_slots 0 (refill n items ws) ≡ fin.insert m i b
put_in items os ws n m i b len same is view lt = ap (λ n. from_slots 0 (refill n items ws)) (sym len ∙ ap length same) ∙ ap (from_slots 0) (written items os ws i (Some b) same is) ∙ set_put items i b lt ∙ ap (λ m. fin.insert m i b) view

pub taken_out : (items os ws : List (Option ConditionValue)) (n : ℕ) (m : BreakMap) (i : ℕ) → length os ≡ n → os ≡ items → ws ≡ slice_set os i None → from_slots 0 items ≡ m → i < length os → from_slots 0 (refill n items ws) ≡ fin.remove m i
taken_out items os ws n m i len same is view lt = ap (λ n. from_slots 0 (refill n items ws)) (sym len ∙ ap length same) ∙ ap (from_slots 0) (written items os ws i None same is) ∙ cleared items i (subst (λ xs. i < length xs) same lt) ∙ ap (λ m. fin.remove m i) view

pub pushed_in : (items : List (Option ConditionValue)) (m : BreakMap) (i : ℕ) (b : ConditionValue) → from_slots 0 items ≡ m → i ≡ length items → from_slots 0 (items ++ Some b ∷ []) ≡ fin.insert m i b
pushed_in items m i b view is = set_push items i b is ∙ ap (λ m. fin.insert m i b) view
