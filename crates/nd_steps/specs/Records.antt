-- What the record of a step names, and to which state it leads.
use Rattle.std.specs.Prelude.{◌≡◌, ◌<◌, ℕ, ◌+◌, List, [], Some, slice_get, length, ⊤}
use Rattle.nd_delta.specs.Delta.{DeltaValue, plus, size, IsTooLarge, IsPartOf}
use Rattle.nd_mesh.specs.Mesh.{row, HasQueue, IsFull}
use Rattle.nd_protocol.specs.State.{ClusterState, processor, view, queue}
use Rattle.nd_protocol.specs.Exchange.{sent, received}
use Rattle.nd_protocol.specs.Fitting.{IsState}
use Rattle.nd_protocol.specs.declared.step.Step.{Step}
use Rattle.nd_steps.specs.Changes.{IsRunnable, applied}
use Rattle.nd_steps.specs.Flows.{keyed_flow}
use Rattle.nd_steps.specs.Feeds.{keyed_feed}
use Rattle.nd_steps.specs.declared.change.Change.{Change}
use Rattle.nd_steps.specs.declared.record.Changes.{Changes}
use Rattle.nd_steps.specs.declared.record.Changes.TheVariants.{Each, Flowed, Fed, Sent, Received}
use Rattle.nd_steps.specs.declared.record.Record.{Record}

-- the changes of a step at single keys, in the order in which they are applied; none of a broadcast or a receive
abbrev pub keyed : {A : Type 0} → Step A → Changes A → List Change
keyed x (Each changes) = changes.items
keyed x (Flowed flow) = keyed_flow x flow
keyed x (Fed at) = keyed_feed x at
keyed x (Sent p part) = []
keyed x (Received from to change) = []

-- how many keys of maps and ends of queues the changes of a step name; a broadcast names one end for all its queues
abbrev pub named_by : {A : Type 0} → Step A → Changes A → ℕ
named_by x (Sent p part) = size part + 1
named_by x (Received from to change) = size change + 1
named_by x changes = length (keyed x changes)

-- how many keys of maps and ends of queues a record names
abbrev pub named : {A : Type 0} → Record A → ℕ
named r = named_by r.step r.changes

-- the changes are equal; the capacity of a list does not count
abbrev pub AreEqual : {A : Type 0} → Changes A → Changes A → Type 0
AreEqual (Each changes) (Each others) = others.items ≡ changes.items
AreEqual (Flowed flow) (Flowed other) = other ≡ flow
AreEqual (Fed at) (Fed other) = other ≡ at
AreEqual (Sent p part) (Sent q other) = (q ≡ p) × (other ≡ part)
AreEqual (Received from to change) (Received k l other) = (k ≡ from) × (l ≡ to) × (other ≡ change)
AreEqual _ _ = ⊥

-- ---- where a record leads

-- the changes can be applied to s, one after the other, and lead to t
abbrev pub RunsTo : ClusterState → List Change → ClusterState → Type 0
RunsTo s cs t = IsRunnable s cs × (applied s cs ≡ t)

-- p can send c, a part of what is unsent: no queue from p is full
pub record CanSend (s : ClusterState) (p : ℕ) (c : DeltaValue) : Type 0 where
  pub there : p < length s.processors
  pub part : IsPartOf c (processor s p).unsent
  pub room : HasQueue IsFull (row s.queues p) → ⊥

-- p can send c, which leads to t
abbrev pub Sends : ClusterState → ℕ → DeltaValue → ClusterState → Type 0
Sends s p c t = CanSend s p c × (sent s p c ≡ t)

-- c is the front of the queue and can be received: no entry of the view exceeds its limit afterwards
pub record CanReceive (s : ClusterState) (from to : ℕ) (c : DeltaValue) : Type 0 where
  pub from_there : from < length s.processors
  pub to_there : to < length s.processors
  pub front : slice_get (queue s from to) 0 ≡ Some c
  pub room : IsTooLarge (plus (view s to) c) → ⊥

-- c can be received, which leads to t
abbrev pub Receives : ClusterState → ℕ → ℕ → DeltaValue → ClusterState → Type 0
Receives s from to c t = CanReceive s from to c × (received s from to ≡ t)

-- the changes of a step lead from s to t
abbrev pub MakesBy : {A : Type 0} → ClusterState → Step A → Changes A → ClusterState → Type 0
MakesBy s x (Sent p part) t = Sends s p part t
MakesBy s x (Received from to change) t = Receives s from to change t
MakesBy s x changes t = RunsTo s (keyed x changes) t

-- the changes are those of a broadcast or a receive
abbrev pub AreExchanged : {A : Type 0} → Changes A → Type 0
AreExchanged (Sent p part) = ⊤
AreExchanged (Received from to change) = ⊤
AreExchanged _ = ⊥

-- the changes ds of a step are its changes cs, in the same order, and lead wherever these lead
pub record StandFor {A : Type 0} (x : Step A) (cs ds : Changes A) : Type 0 where
  pub same : keyed x ds ≡ keyed x cs
  pub left : AreExchanged cs → ds ≡ cs
  pub many : named_by x ds ≡ named_by x cs
  pub makes : (s t : ClusterState) → MakesBy s x cs t → MakesBy s x ds t

-- the changes of a record lead from s to t
abbrev pub Makes : {A : Type 0} → ClusterState → Record A → ClusterState → Type 0
Makes s r t = MakesBy s r.step r.changes t

-- t is the only state that can satisfy P
abbrev pub IsWhere : (ClusterState → Type 0) → ClusterState → Type 0
IsWhere P t = (u : ClusterState) → P u → t ≡ u

-- the record q leads wherever the record r leads
abbrev pub MakesWhat : {A : Type 0} → Record A → Record A → Type 0
MakesWhat r q = (s t : ClusterState) → Makes s r t → Makes s q t

-- ---- back to the state before a step

-- the changes cs lead from s to t
abbrev pub StartsRun : List Change → ClusterState → ClusterState → Type 0
StartsRun cs t s = RunsTo s cs t

-- some state that a cluster may be in satisfies P
abbrev pub CameFrom : (ClusterState → Type 0) → Type 0
CameFrom P = (s : ClusterState) × IsState s × P s

-- t is the only state that a cluster may be in and that satisfies P
abbrev pub IsBackAt : (ClusterState → Type 0) → ClusterState → Type 0
IsBackAt P t = (s : ClusterState) → IsState s → P s → t ≡ s
