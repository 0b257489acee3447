-- Changes in the order in which they are applied, and changes that are refused because of a limit.
use Rattle.std.specs.Prelude.{◌≡◌, ℕ, Bool, true, false, List}
use Rattle.nd_processor.specs.State.{ProcessorState}
use Rattle.nd_processor.specs.declared.key.ValueAt.{ValueAt}
use Rattle.nd_protocol.specs.State.{ClusterState}
use Rattle.nd_protocol.specs.Enabled.{HasLargeCount, HasLargeEntry}
use Rattle.nd_protocol.specs.declared.refusal.Refusal.{Refusal}
use Rattle.nd_protocol.specs.declared.refusal.Refusal.TheVariants.{CountFull, DeltaFull}
use Rattle.nd_steps.specs.Plans.{Each, ReachesIn, LeadsTo}
use Rattle.nd_steps.specs.Limits.{CountStays, EntryStays, LimitFails}
use Rattle.nd_steps.specs.Flows.{come_changes, flow_changes}
use Rattle.nd_steps.specs.declared.change.Change.{Change}
use Rattle.nd_steps.specs.declared.consequence.Consequence.{Consequence}
use Rattle.nd_steps.specs.declared.flow.Flow.{Flow}

-- ---- what is read about changes

-- all counts and all entries are within their limits afterwards
abbrev pub StayWithin : List ProcessorState → List Change → Type 0
StayWithin processors cs = Each (CountStays processors) cs × Each (EntryStays processors) cs

-- the refusal names the first of the two limits that does not hold
abbrev pub FailsFirst : Bool → Bool → Refusal → Type 0
FailsFirst counts_stay entries_stay CountFull = counts_stay ≡ false
FailsFirst counts_stay entries_stay DeltaFull = (counts_stay ≡ true) × (entries_stay ≡ false)
FailsFirst counts_stay entries_stay _ = ⊥

-- a count or an entry exceeds the limit that the refusal names; the limit of counts is tested before that of entries
abbrev pub StayFails : List ProcessorState → List Change → Refusal → Type 0
StayFails processors cs CountFull = Each (CountStays processors) cs → ⊥
StayFails processors cs DeltaFull = Each (CountStays processors) cs × (Each (EntryStays processors) cs → ⊥)
StayFails processors cs _ = ⊥

-- ---- the states to which changes lead

-- the changes lead from some state with these processors to another state, in whatever order they are listed
abbrev pub CanReach : List ProcessorState → List Change → Type 0
CanReach processors all = (s : ClusterState) × (t : ClusterState) × ReachesIn processors s t all

-- in the order of cs the changes can be applied and lead to the same state, which exceeds no limit
pub record AreOrdered (processors : List ProcessorState) (all cs : List Change) : Type 0 where
  pub leads : (s t : ClusterState) → ReachesIn processors s t all → LeadsTo s t cs
  pub counts : (s t : ClusterState) → ReachesIn processors s t all → HasLargeCount t → ⊥
  pub entries : (s t : ClusterState) → ReachesIn processors s t all → HasLargeEntry t → ⊥

-- each state to which the changes lead exceeds the limit that the refusal r names
abbrev pub PassLimit : List ProcessorState → List Change → Refusal → Type 0
PassLimit processors all r = (s t : ClusterState) → ReachesIn processors s t all → LimitFails t r

-- the flow f has the changes of processor p's take with this consequence in such an order
abbrev pub IsOrderedFlow : List ProcessorState → ℕ → ValueAt → Consequence → Flow → Type 0
IsOrderedFlow processors p gone come f = AreOrdered processors (come_changes p gone come) (flow_changes p gone f)
