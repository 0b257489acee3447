-- Changes that reach a state, in terms of their processors.
use Rattle.std.proofs.Common.{List, sym, subst}
use Rattle.nd_processor.specs.State.{ProcessorState}
use Rattle.nd_protocol.specs.State.{ClusterState}
use Rattle.nd_protocol.specs.Enabled.{HasLargeCount, HasLargeEntry}
use Rattle.nd_protocol.specs.declared.refusal.Refusal.{Refusal}
use Rattle.nd_protocol.specs.declared.refusal.Refusal.TheVariants.{CountFull, DeltaFull}
use Rattle.nd_steps.specs.Limits.{CountStays, EntryStays, LimitFails}
use Rattle.nd_steps.specs.Orders.{StayWithin, StayFails}
use Rattle.nd_steps.specs.Plans.{Each, Reaches, ReachesIn, LeadsTo}
use Rattle.nd_steps.specs.Turns.{IsReadable, IsInOrder}
use Rattle.nd_steps.specs.Undos.{IsGain}
use Rattle.nd_steps.specs.declared.change.Change.{Change}
use Rattle.nd_steps.proofs.EachLemmas.{each_at, each_from}
use Rattle.nd_steps.proofs.LimitsLemmas.{counts_pass, entries_pass, counts_fit, entries_fit}
use Rattle.nd_steps.proofs.PlansLemmas.{there_by, planned}

readable_in : (s t : ClusterState) (cs : List Change) → Reaches s t cs → Each (IsReadable s.processors) cs
readable_in s t cs h = each_from (IsReadable s.processors) cs (λ k d lt.
    let there = there_by s t cs h k d lt in
    record { owner = there.0; there = there.1; small = each_at (λ c. IsGain c.n) cs k d h.small lt })

module _ (ps : List ProcessorState) (s t : ClusterState) (all : List Change) (h : ReachesIn ps s t all) where
  pub readable : Each (IsReadable ps) all
  readable = subst (λ qs. Each (IsReadable qs) all) h.0 (readable_in s t all h.1)

  -- what holds of the changes on the processors holds in the state
  in_state : (P : List ProcessorState → Type 0) → P ps → P s.processors
  in_state P x = subst P (sym h.0) x

  pub few_enough : Each (CountStays ps) all → HasLargeCount t → ⊥
  few_enough each = counts_fit s all t h.1 (in_state (λ qs. Each (CountStays qs) all) each)

  pub little_enough : Each (EntryStays ps) all → HasLargeEntry t → ⊥
  little_enough each = entries_fit s all t h.1 (in_state (λ qs. Each (EntryStays qs) all) each)

  pub passes : (r : Refusal) → StayFails ps all r → LimitFails t r
  passes CountFull fails = counts_pass s all t h.1 (in_state (λ qs. Each (CountStays qs) all → ⊥) fails)
  passes DeltaFull fails = (few_enough fails.0, entries_pass s all t h.1 (in_state (λ qs. Each (EntryStays qs) all → ⊥) fails.1))
  passes r fails = absurd (fails)

  pub leads : (cs : List Change) → IsInOrder ps all cs → StayWithin ps all → LeadsTo s t cs
  leads cs order within =
      planned s t all cs h.1 (in_state (λ qs. IsInOrder qs all cs) order) (in_state (λ qs. Each (CountStays qs) all) within.0) (in_state (λ qs. Each (EntryStays qs) all) within.1)
