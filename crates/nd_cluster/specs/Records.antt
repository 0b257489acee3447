-- What holds of the record of a step.
use Rattle.std.specs.Prelude.{◌≡◌, ℕ, ◌+◌, ◌-◌, ◌<◌, pos, length, Some}
use Rattle.std.specs.FinMap as fin
use Rattle.nd_paths.specs.Order.{CouldResultIn, IsStrictlyBefore}
use Rattle.nd_paths.specs.declared.point.Pointstamp.{Pointstamp}
use Rattle.nd_delta.specs.Delta.{at}
use Rattle.nd_processor.specs.declared.key.ValueAt.{ValueAt}
use Rattle.nd_view.specs.View.{IsPassed}
use Rattle.nd_protocol.specs.State.{ClusterState, processor, view, truth}
use Rattle.nd_protocol.specs.Steps.{point_at, stepped}
use Rattle.nd_protocol.specs.Fitting.{IsState}
use Rattle.nd_protocol.specs.Enabled.{IsEnabled}
use Rattle.nd_protocol.specs.Invariant.{KeepsProtocol, IsFinished}
use Rattle.nd_protocol.specs.Sending.{Appears, IsAfterSend}
use Rattle.nd_protocol.specs.declared.batch.Batch.{Batch}
use Rattle.nd_protocol.specs.declared.step.Step.{Step}
use Rattle.nd_protocol.specs.declared.step.Step.TheVariants.{Notice, Send, Broadcast}
use Rattle.nd_steps.specs.Integers.{changed}
use Rattle.nd_steps.specs.Records.{named, named_by, Makes, MakesBy}
use Rattle.nd_steps.specs.declared.record.Changes.{Changes}
use Rattle.nd_steps.specs.declared.record.Record.{Record}

-- how many ends of queues a step changes beyond those that its record names
abbrev pub shared : {A : Type 0} → ClusterState → Step A → ℕ
shared s (Broadcast p part) = length s.processors - 1
shared s _ = 0

-- a record names as many keys and ends of queues as the step changes; the ends of all queues of a broadcast count once
abbrev pub NamesAll : {A : Type 0} → ClusterState → Step A → Record A → Type 0
NamesAll s x r = named r + shared s x ≡ changed s (stepped s x)

-- the step is enabled, and the changes are its changes, as few as possible
pub record Plans {A : Type 0} (s : ClusterState) (x : Step A) (cs : Changes A) : Type 0 where
  pub enabled : IsEnabled s x
  pub makes : MakesBy s x cs (stepped s x)
  pub small : named_by x cs + shared s x ≡ changed s (stepped s x)

-- if the step is a notice and the cluster has the protocol invariant, nothing outstanding is strictly before the notice's
-- pointstamp
abbrev pub ComesLast : {A : Type 0} → ClusterState → Step A → Type 0
ComesLast s (Notice p vertex t) = KeepsProtocol s → (x : Pointstamp) → IsStrictlyBefore s.graph x (point_at vertex t) → at (truth s.processors) x ≡ pos 0
ComesLast s _ = Unit {0}

-- what a send from the capability of p leads to: exactly its records are made; each is strictly after the capability, which p holds
-- before and after; and with the protocol invariant no view has passed it
pub record Sends {A : Type 0} (s t : ClusterState) (p vertex : ℕ) (batch : Batch A) : Type 0 where
  pub exact : IsAfterSend s t p vertex batch
  pub held : fin.get (processor s p).requests (point_at vertex batch.time) ≡ Some tt
  pub stays : fin.get (processor t p).requests (point_at vertex batch.time) ≡ Some tt
  pub later : (r : ValueAt) → Appears s t r → IsStrictlyBefore s.graph (point_at vertex batch.time) r.point
  pub not_passed : KeepsProtocol s → (q : ℕ) → q < length s.processors → (r : ValueAt) → Appears s t r → IsPassed s.graph (view s q) r.point → ⊥

-- if the step from s to t is a send, it sends
abbrev pub IsSent : {A : Type 0} → ClusterState → ClusterState → Step A → Type 0
IsSent s t (Send p vertex batch) = Sends s t p vertex batch
IsSent s t _ = Unit {0}

-- no view has passed what could result from a request: a notification that waits, or a capability that is held
abbrev pub HeldAreNotPassed : ClusterState → Type 0
HeldAreNotPassed s = (p q : ℕ) → p < length s.processors → q < length s.processors → (x t : Pointstamp)
    → fin.get (processor s p).requests x ≡ Some tt → CouldResultIn s.graph x t → IsPassed s.graph (view s q) t → ⊥

-- the record's step is enabled in this state, and its changes lead to the state after the step; they name as many keys and ends
-- of queues as the step changes, and the ends of all queues of a broadcast count once
pub record IsPlanned {A : Type 0} (r : Record A) (s : ClusterState) : Type 0 where
  pub state : IsState s
  pub enabled : IsEnabled s r.step
  pub makes : Makes s r (stepped s r.step)
  pub small : named r + shared s r.step ≡ changed s (stepped s r.step)

-- the record was planned in s, and its step leads to t
pub record Leads {A : Type 0} (r : Record A) (s t : ClusterState) : Type 0 where
  pub planned : IsPlanned r s
  pub after : t ≡ stepped s r.step

-- the record's step led to this state
pub record IsCommitted {A : Type 0} (r : Record A) (t : ClusterState) : Type 0 where
  pub state : ClusterState
  pub leads : Leads r state t

-- what is finished in s is finished in t
abbrev pub StaysFinished : ClusterState → ClusterState → Type 0
StaysFinished s t = (x : Pointstamp) → IsFinished s x → IsFinished t x
