-- The joined list of the changes that a plan finds reaches the state after the step.
use Rattle.std.proofs.Common.{◌≡◌, ◌≤◌, ◌^◌, ℕ, ℤ, pos, ◌+ℤ◌, unsigned_abs, true, false, cond, List, [], ◌∷◌, ◌++◌, length, get_or, refl, sym, ap, subst, ◌∙◌, arith}
use Rattle.std.proofs.lemmas.Int.{ints}
use Rattle.nd_processor.specs.declared.key.ValueAt.{ValueAt}
use Rattle.nd_protocol.specs.State.{ClusterState}
use Rattle.nd_protocol.specs.Steps.{stepped}
use Rattle.nd_protocol.specs.Fitting.{IsState}
use Rattle.nd_protocol.specs.Enabled.{IsFreeBelow}
use Rattle.nd_protocol.specs.declared.step.Step.{Step}
use Rattle.nd_steps.specs.Places.{Place, place_at, view_of}
use Rattle.nd_steps.specs.Slots.{SlotRanged}
use Rattle.nd_steps.specs.Integers.{standing}
use Rattle.nd_steps.specs.Changes.{place_of}
use Rattle.nd_steps.specs.Undos.{IsGain}
use Rattle.nd_steps.specs.Plans.{total_at, Each, StaysRanged, Reaches}
use Rattle.nd_steps.specs.Places.{is_place}
use Rattle.nd_steps.proofs.AlikeLemmas.{same_place, same_slot}
use Rattle.nd_steps.specs.Drafts.{Leads, AreJoined, arrivals}
use Rattle.nd_steps.specs.declared.change.Change.{Change}
use Rattle.nd_steps.specs.declared.slot.Slot.{Slot}
use Rattle.nd_steps.specs.declared.slot.Slot.TheVariants.{Token, State}
use Rattle.nd_steps.proofs.EachLemmas.{each_from, gain_alone}
use Rattle.nd_steps.proofs.LimitsLemmas.{slot_within, holds_at}
use Rattle.nd_steps.proofs.StepMoves.{StepAdds, standing-stepped, processors-stepped, items-stepped}
use Rattle.nd_steps.proofs.FoundLemmas.{IsRanged, IsOne, IsSound, sound_more, arrivals_plain}

-- ---- what is added at one place

-- changes by one add at most as much as there are changes
ones_total : (p : ℕ) (l : Slot) → ((z : ℤ) → IsOne l z → unsigned_abs z ≤ 1) → (cs : List Change) → Each (λ c. IsOne c.slot c.n) cs → unsigned_abs (total_at (place_at p l) cs) ≤ length cs
ones_total p l one [] h = omega arith
ones_total p l one (c ∷ cs) h =
    elim (is_place (place_at p l) (place_of c)) as (λ b. is_place (place_at p l) (place_of c) ≡ b → unsigned_abs (cond b c.n (pos 0) +ℤ total_at (place_at p l) cs) ≤ length (c ∷ cs)) [
      | true ↦ λ t.
          let same : l ≡ c.slot = same_slot p c.p l c.slot (same_place (place_at p l) (place_of c) t) in
          let o : unsigned_abs c.n ≤ 1 = one c.n (subst (λ j. IsOne j c.n) (sym same) h.0) in
          let i = ones_total p l one cs h.1 in
          omega (arith, ints, o, i)
      | false ↦ λ t. let i = ones_total p l one cs h.1 in omega (arith, ints, i)
    ] refl

abbrev RangedAt : Place → ℤ → Type 0
RangedAt (place_at p l) z = SlotRanged l z
RangedAt (view_of q x) z = Unit {0}

module _ (s : ClusterState) (state : IsState s) (cs : List Change) (sound : IsSound s cs) where
  ranged_at : (p : ℕ) (l : Slot) → IsRanged l → SlotRanged l (standing s (place_at p l) +ℤ total_at (place_at p l) cs)
  ranged_at p l ranged = holds_at RangedAt s (place_at p l) cs (sound.once p l ranged) (slot_within s state p l).ranged sound.ranged

  pub ranged_then : (p : ℕ) (l : Slot) → SlotRanged l (standing s (place_at p l) +ℤ total_at (place_at p l) cs)
  ranged_then p (Token v) = ranged_at p (Token v) tt
  ranged_then p (State v key) = ranged_at p (State v key) tt
  ranged_then p l = tt

  module _ (few : length cs ≤ 2 ^ 64) where
    by_ones : (p : ℕ) (l : Slot) → ((z : ℤ) → IsOne l z → unsigned_abs z ≤ 1) → IsGain (total_at (place_at p l) cs)
    by_ones p l one = let h = ones_total p l one cs sound.ones in omega (arith, few, h)

    pub gains : (p : ℕ) (l : Slot) → IsGain (total_at (place_at p l) cs)
    gains p (Token v) =
        let a = (slot_within s state p (Token v)).ranged in
        let b = ranged_then p (Token v) in
        omega (arith, ints, a, b)
    gains p (State v key) =
        let a = (slot_within s state p (State v key)).ranged in
        let b = ranged_then p (State v key) in
        omega (arith, ints, a, b)
    gains p l = by_ones p l (λ z h. h)

-- ---- the joined list

module _ {A : Type 0} (s : ClusterState) (x : Step A) (state : IsState s) (found : List Change) (adds : StepAdds s x found) (sound : IsSound s found)
    (cs ds : List Change) (is : cs ≡ found) (few : length cs ≤ 2 ^ 64) (joins : AreJoined cs ds) where
  totals : (k : Place) → total_at k ds ≡ total_at k found
  totals k = joins.totals k ∙ ap (total_at k) is

  each_by : (P : Change → Type 0) → ((c : Change) → total_at (place_of c) found ≡ c.n → P c) → Each P ds
  each_by P f = each_from P ds (λ k d lt.
      let c = get_or ds k d in
      f c (sym (totals (place_of c)) ∙ gain_alone ds joins.once k d lt))

  pub reaches : Reaches s (stepped s x) ds
  reaches = record {
    state = state;
    graph = ap (λ (t : ClusterState). t.graph) adds.is;
    views = ap (λ (t : ClusterState). t.views) adds.is;
    queues = ap (λ (t : ClusterState). t.queues) adds.is;
    count = processors-stepped s x found adds;
    items = items-stepped s x found adds;
    once = joins.once;
    some = joins.some;
    small = each_by (λ c. IsGain c.n) (λ c e. subst IsGain e (gains s state found sound (subst (λ es. length es ≤ 2 ^ 64) is few) c.p c.slot));
    ranged = each_by (StaysRanged s) (λ c e. subst (λ z. SlotRanged c.slot (standing s (place_of c) +ℤ z)) e (ranged_then s state found sound c.p c.slot));
    totals = λ k. standing-stepped s x found adds k ∙ ap (λ z. standing s k +ℤ z) (sym (totals k));
  }

-- ---- a step whose last changes are those of records that arrive

module _ {A : Type 0} (s : ClusterState) (x : Step A) (p : ℕ) (own : List Change) (rs : List (ℕ × ValueAt)) (sound : IsSound s own)
    (adds : IsState s → IsFreeBelow s x 13 → StepAdds s x (own ++ arrivals p rs)) where
  pub arrivals_lead : (cs : List Change) → cs ≡ own ++ arrivals p rs → length cs ≤ 2 ^ 64 → (ds : List Change) → AreJoined cs ds → Leads s x ds
  arrivals_lead cs is few ds joins state free =
      reaches s x state (own ++ arrivals p rs) (adds state free) (sound_more s own (arrivals p rs) sound (arrivals_plain p rs)) cs ds is few joins
