-- Changes put in order from the front: what is known about the first i, one more, and all.
use Rattle.std.proofs.Common.{◌≡◌, ◌≢◌, ◌<◌, ◌≤◌, ◌+◌, ℕ, zero, suc, pos, Bool, true, false, ◌&&◌, ◌||◌, nat_eq, List, length, get_or, refl, sym, ap, subst, ◌∙◌, inl, inr, arith}
use Rattle.std.specs.Prelude.{◌↔◌, IsTrue}
use Rattle.std.specs.List as edits
use Rattle.std.specs.List.Sorted.{IsPermutation}
use Rattle.std.proofs.lemmas.Bool.{cases_eq}
use Rattle.std.proofs.lemmas.Bool.Decides.{nat_tests}
use Rattle.std.proofs.lemmas.List.{get_or_default}
use Rattle.std.proofs.lemmas.List.Edits.{Swapped, swapped_from_swap}
use Rattle.std.proofs.lemmas.List.Sorted.{IsPermutation-refl, IsPermutation-trans, length_permutation}
use Rattle.nd_map.specs.Cases.{zero_or_not}
use Rattle.nd_processor.specs.State.{ProcessorState}
use Rattle.nd_protocol.specs.declared.refusal.Refusal.{Refusal}
use Rattle.nd_protocol.specs.declared.refusal.Refusal.TheVariants.{CountFull, DeltaFull}
use Rattle.nd_steps.specs.Plans.{Each}
use Rattle.nd_steps.specs.Limits.{after, CountStays, EntryStays}
use Rattle.nd_steps.specs.Turns.{IsInOrder}
use Rattle.nd_steps.specs.Orders.{FailsFirst, StayWithin, StayFails}
use Rattle.nd_steps.specs.declared.change.Change.{Change}
use Rattle.nd_steps.proofs.EachLemmas.{each_at, each_from}

-- each of the first i satisfies P
abbrev pub Below : (Change → Type 0) → List Change → ℕ → Type 0
Below P all i = (k : ℕ) (d : Change) → k < i → P (get_or all k d)

-- of the first i changes it is known whether they keep within the limits
pub record AreRead (ps : List ProcessorState) (all : List Change) (i : ℕ) (counts entries : Bool) : Type 0 where
  pub within : i ≤ length all
  pub counts_stay : IsTrue counts ↔ Below (CountStays ps) all i
  pub entries_stay : IsTrue entries ↔ Below (EntryStays ps) all i

-- the first i changes of all are in order in the second list; the others are unchanged
pub record IsPutInOrder (ps : List ProcessorState) (all cs : List Change) (turn i : ℕ) (counts entries : Bool) : Type 0 where
  pub same : IsPermutation all cs
  pub behind : turn ≤ i
  pub leaves : (k : ℕ) (d : Change) → k < turn → after ps (get_or cs k d) ≢ pos 0
  pub goes : (k : ℕ) (d : Change) → turn ≤ k → k < i → after ps (get_or cs k d) ≡ pos 0
  pub rest : (k : ℕ) (d : Change) → i ≤ k → get_or cs k d ≡ get_or all k d
  pub read : AreRead ps all i counts entries

none_below : (P : Change → Type 0) (all : List Change) → IsTrue true ↔ Below P all 0
none_below P all = (λ t k d lt. absurd (omega (arith, lt)), λ h. refl)

pub none_read : (ps : List ProcessorState) (all : List Change) → AreRead ps all 0 true true
none_read ps all = record { within = omega arith; counts_stay = none_below (CountStays ps) all; entries_stay = none_below (EntryStays ps) all }

pub none_yet : (ps : List ProcessorState) (all : List Change) → IsPutInOrder ps all all 0 0 true true
none_yet ps all = record {
  same = IsPermutation-refl all;
  behind = omega arith;
  leaves = λ k d lt. absurd (omega (arith, lt));
  goes = λ k d past lt. absurd (omega (arith, lt));
  rest = λ k d past. refl;
  read = none_read ps all;
}

-- after i changes: whether the first change leaves an integer that is not 0, false before any
pub record IsSeenFirst (ps : List ProcessorState) (all : List Change) (i : ℕ) (first : Bool) : Type 0 where
  pub none : i ≡ 0 → first ≡ false
  pub known : (d : Change) → 0 < i → IsTrue first ↔ (after ps (get_or all 0 d) ≢ pos 0)

pub unseen : (ps : List ProcessorState) (all : List Change) → IsSeenFirst ps all 0 false
unseen ps all = record { none = λ _. refl; known = λ d lt. absurd (omega (arith, lt)) }

-- ---- one more

both_true : (a b : Bool) (P Q : Type 0) → (IsTrue a ↔ P) → (IsTrue b ↔ Q) → IsTrue (a && b) ↔ (P × Q)
both_true true b P Q h g = (λ t. (h.0 refl, g.0 t), λ t. g.1 t.1)
both_true false b P Q h g = (λ t. absurd (cc (t)), λ t. absurd (cc (h.1 t.0)))

below_more : (all : List Change) (i : ℕ) (x : Change) → ((d : Change) → get_or all i d ≡ x) → (P : Change → Type 0) (a b : Bool) → (IsTrue a ↔ Below P all i) → (IsTrue b ↔ P x) → IsTrue (a && b) ↔ Below P all (i + 1)
below_more all i x of_all P a b so more =
    let both = both_true a b (Below P all i) (P x) so more in (
      λ t k d less. elim (cases_eq k i) [
        | inl e ↦ subst P (sym (ap (λ j. get_or all j d) e ∙ of_all d)) (both.0 t).1
        | inr n ↦ (both.0 t).0 k d (omega (arith, less, n))
      ],
      λ each. both.1 ((λ k d less. each k d (omega (arith, less))), subst P (of_all x) (each i x (omega arith))),
    )

pub read_more : (ps : List ProcessorState) (all : List Change) (i : ℕ) (counts entries : Bool) → AreRead ps all i counts entries → i < length all → (x : Change) → ((d : Change) → get_or all i d ≡ x)
    → (count entry : Bool) → (IsTrue count ↔ CountStays ps x) → (IsTrue entry ↔ EntryStays ps x) → AreRead ps all (i + 1) (counts && count) (entries && entry)
read_more ps all i counts entries h lt x of_all count entry count_is entry_is = record {
  within = omega (arith, lt);
  counts_stay = below_more all i x of_all (CountStays ps) counts count h.counts_stay count_is;
  entries_stay = below_more all i x of_all (EntryStays ps) entries entry h.entries_stay entry_is;
}

module _ (ps : List ProcessorState) (all cs : List Change) (turn i : ℕ) (counts entries : Bool) (h : IsPutInOrder ps all cs turn i counts entries) (lt : i < length all)
    (e : Change) (count entry : Bool) (count_is : IsTrue count ↔ CountStays ps (get_or cs i e)) (entry_is : IsTrue entry ↔ EntryStays ps (get_or cs i e)) where
  abbrev x : Change
  x = get_or cs i e

  of_all : (d : Change) → get_or all i d ≡ x
  of_all d = get_or_default all i d e lt ∙ sym (h.rest i e (omega arith))

  here : (d : Change) → get_or cs i d ≡ x
  here d = h.rest i d (omega arith) ∙ of_all d

  read : AreRead ps all (i + 1) (counts && count) (entries && entry)
  read = read_more ps all i counts entries h.read lt x of_all count entry count_is entry_is

  -- the integer after the change is 0, and the change stays in its position
  nothing : (after ps x ≢ pos 0 → ⊥) → after ps x ≡ pos 0
  nothing not = elim (zero_or_not (after ps x)) [ inl none ↦ none | inr some ↦ absurd (not some) ]

  pub one_goes : (after ps x ≢ pos 0 → ⊥) → IsPutInOrder ps all cs turn (i + 1) (counts && count) (entries && entry)
  one_goes not = record {
    same = h.same;
    behind = (let b = h.behind in omega (arith, b));
    leaves = h.leaves;
    goes = λ k d past less. elim (cases_eq k i) [
      | inl e ↦ ap (after ps) (ap (λ j. get_or cs j d) e ∙ here d) ∙ nothing not
      | inr n ↦ h.goes k d past (omega (arith, less, n))
    ];
    rest = λ k d past. h.rest k d (omega (arith, past));
    read = read;
  }

  -- the integer after the change is not 0, and the change swaps places with the first for which it is 0
  module _ (some : after ps x ≢ pos 0) (ds : List Change) (moved : IsPermutation cs ds) (swapped : ds ≡ edits.swap cs turn i) where
    in_range : i < length cs
    in_range = let e = length_permutation all cs h.same in omega (arith, lt, e)

    turned : (d : Change) → Swapped (λ k. get_or cs k d) (λ k. get_or ds k d) turn i
    turned d = let b = h.behind in let r = in_range in swapped_from_swap cs ds turn i d (omega (arith, b, r)) r swapped

    stays_put : (k : ℕ) (d : Change) → k ≢ turn → k ≢ i → get_or ds k d ≡ get_or cs k d
    stays_put k d a b = (turned d).2 k a b

    pub one_leaves : IsPutInOrder ps all ds (turn + 1) (i + 1) (counts && count) (entries && entry)
    one_leaves = record {
      same = IsPermutation-trans all cs ds h.same moved;
      behind = (let b = h.behind in omega (arith, b));
      leaves = λ k d less. elim (cases_eq k turn) [
        | inl e ↦ λ none. some (ap (after ps) (sym (ap (λ j. get_or ds j d) e ∙ (turned d).0 ∙ here d)) ∙ none)
        | inr n ↦
            let b = h.behind in
            let before : k < turn = omega (arith, less, n) in
            λ none. h.leaves k d before (ap (after ps) (sym (stays_put k d n (λ e. omega (arith, e, b, before)))) ∙ none)
      ];
      goes = λ k d past less. elim (cases_eq k i) [
        | inl e ↦ ap (after ps) (ap (λ j. get_or ds j d) e ∙ (turned d).1) ∙ h.goes turn d (omega arith) (omega (arith, past, e))
        | inr n ↦ ap (after ps) (stays_put k d (λ e. omega (arith, e, past)) n) ∙ h.goes k d (omega (arith, past)) (omega (arith, less, n))
      ];
      rest = λ k d past. let b = h.behind in stays_put k d (λ e. omega (arith, e, past, b)) (λ e. omega (arith, e, past)) ∙ h.rest k d (omega (arith, past));
      read = read;
    }

-- ---- all

pub in_order : {ps : List ProcessorState} {all cs : List Change} {turn i : ℕ} {counts entries : Bool} → IsPutInOrder ps all cs turn i counts entries → length all ≤ i → IsInOrder ps all cs
in_order {all = all} {cs = cs} {turn = turn} h past =
    let e = length_permutation all cs h.same in
    record { same = h.same; turn = turn; leaves = λ k d lt first. h.leaves k d first; goes = λ k d lt late. h.goes k d late (omega (arith, lt, past, e)) }

module _ {ps : List ProcessorState} {all : List Change} {i : ℕ} {counts entries : Bool} (h : AreRead ps all i counts entries) (past : length all ≤ i) where
  each_below : (P : Change → Type 0) (b : Bool) → (IsTrue b ↔ Below P all i) → IsTrue b ↔ Each P all
  each_below P b is = (
    λ t. each_from P all (λ k d lt. is.0 t k d (omega (arith, lt, past))),
    λ each. is.1 (λ k d less. each_at P all k d each (let w = h.within in omega (arith, less, w))),
  )

  all_few : counts ≡ true → Each (CountStays ps) all
  all_few e = (each_below (CountStays ps) counts h.counts_stay).0 e

  -- within the limits, or the limit that is exceeded
  pub all_within : (counts ≡ true) × (entries ≡ true) → StayWithin ps all
  all_within e = (all_few e.0, (each_below (EntryStays ps) entries h.entries_stay).0 e.1)

  pub some_fails : (r : Refusal) → FailsFirst counts entries r → StayFails ps all r
  some_fails CountFull e = λ each. (let t = (each_below (CountStays ps) counts h.counts_stay).1 each in absurd (cc (t, e)))
  some_fails DeltaFull e = (all_few e.0, λ each. (let t = (each_below (EntryStays ps) entries h.entries_stay).1 each in let f = e.1 in absurd (cc (t, f))))
  some_fails _ e = absurd e

-- one more change is read, which may be the first
pub see_more : (ps : List ProcessorState) (all : List Change) (i : ℕ) (first : Bool) → IsSeenFirst ps all i first → (x : Change) → ((d : Change) → get_or all i d ≡ x)
    → (b : Bool) → (IsTrue b ↔ (after ps x ≢ pos 0)) → IsSeenFirst ps all (i + 1) (first || (nat_eq i 0 && b))
see_more ps all zero first seen x of_all b reads =
    let whole : (first || (true && b)) ≡ b = ap (λ y. y || (true && b)) (seen.none refl) in
    record { none = λ z. absurd (omega (arith, z)); known = λ d some. rw whole (subst (λ y. IsTrue b ↔ (after ps y ≢ pos 0)) (sym (of_all d)) reads) }
see_more ps all (suc i) first seen x of_all b reads =
    let later : nat_eq (suc i) 0 ≡ false = grind (arith, nat_tests) in
    let same : (first || (nat_eq (suc i) 0 && b)) ≡ first = ap (λ t. first || (t && b)) later ∙ or_false first in
    record { none = λ z. absurd (omega (arith, z)); known = λ d some. subst (λ y. IsTrue y ↔ (after ps (get_or all 0 d) ≢ pos 0)) (sym same) (seen.known d (omega arith)) }
  where
    or_false : (x : Bool) → (x || false) ≡ x
    or_false true = refl
    or_false false = refl
