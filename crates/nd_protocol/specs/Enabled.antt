-- When a step is enabled, and with which refusal it is refused otherwise: that of the least number whose condition holds.
use Rattle.std.specs.Prelude.{◌≡◌, ◌≢◌, ℕ, ◌<◌, ◌≤◌, ◌⊎◌, ℤ, true, false, List, [], ◌∷◌, length, All, Option, Some, None, unsigned_abs, FitsSigned}
use Rattle.std.specs.Int.{w64}
use Rattle.std.specs.FinMap as fin
use Rattle.nd_time.specs.Limits.{max_count, max_counter, max_values, max_queue}
use Rattle.nd_time.specs.Time.{Time, last_of}
use Rattle.nd_time.specs.Order.{IsAtOrBeforeBy}
use Rattle.nd_map.specs.Counts.{at}
use Rattle.nd_graph.specs.Graph.{location_count, op_at}
use Rattle.nd_graph.specs.declared.op.Op.TheVariants as op
use Rattle.nd_graph.specs.Operators.{facts}
use Rattle.nd_graph.specs.Checked.{ports}
use Rattle.nd_paths.specs.Order.{IsStrictlyBefore}
use Rattle.nd_paths.specs.declared.point.Pointstamp.{Pointstamp}
use Rattle.nd_delta.specs.Delta.{DeltaValue, none, at as in_change, minus}
use Rattle.nd_delta.specs.Least.{IsLeast}
use Rattle.nd_delta.specs.Upright.{IsUnsupported}
use Rattle.nd_view.specs.View.{IsPrecursor}
use Rattle.nd_vertex.specs.Table.{Outcome}
use Rattle.nd_vertex.specs.declared.key.ItemKey.{ItemKey}
use Rattle.nd_processor.specs.declared.key.ValueAt.{ValueAt}
use Rattle.nd_processor.specs.declared.key.SinkKey.{SinkKey}
use Rattle.nd_protocol.specs.State.{ClusterState, processor, view, queue}
use Rattle.nd_protocol.specs.Invariant.{Supports}
use Rattle.nd_protocol.specs.Exchange.{StaysUpright}
use Rattle.nd_protocol.specs.Steps.{record_key, target_of, point_at, epoch_of, take_outcome, batch_time, chosen, stepped}
use Rattle.nd_protocol.specs.Refusals.{number_of}
use Rattle.nd_protocol.specs.Ranges.{NumbersFit}
use Rattle.nd_protocol.specs.Times.{GoesLater, is_kept}
use Rattle.nd_protocol.specs.declared.times.Later.{Later}
use Rattle.nd_protocol.specs.declared.times.Times.{Times}
use Rattle.nd_protocol.specs.declared.batch.Batch.{Batch}
use Rattle.nd_protocol.specs.declared.step.Step.{Step}
use Rattle.nd_protocol.specs.declared.step.Step.TheVariants.{Feed, Take, Notice, Release, Send, Broadcast, Receive}
use Rattle.nd_protocol.specs.declared.step.Next.{Next as Afterwards}
use Rattle.nd_protocol.specs.declared.step.Next.TheVariants as token
use Rattle.nd_protocol.specs.declared.refusal.Refusal.{Refusal}
use Rattle.nd_protocol.specs.declared.refusal.Refusal.TheVariants.{NoProcessor, NoVertex, NoEdge, NotInput, InputClosed, TooManyValues, EpochFull, NoRecord, NoRequest, NotYet, CounterFull, ValueRange, CountFull, DeltaFull, NothingToSend, NotAdmissible, QueueEmpty, QueueFull, NotNotified, NotLater, NoPort, TooEarly}

-- the count of a record or of a sink exceeds its limit
pub data HasLargeCount (s : ClusterState) : Type 0 where
  of_record : (p : ℕ) (k : ValueAt) → max_count < at (processor s p).records k → HasLargeCount s
  of_sink : (p : ℕ) (k : SinkKey) → max_count < at (processor s p).sinks k → HasLargeCount s

-- an entry of an unsent change or of a view exceeds its limit
pub data HasLargeEntry (s : ClusterState) : Type 0 where
  of_unsent : (p : ℕ) (x : Pointstamp) → max_count < unsigned_abs (in_change (processor s p).unsent x) → HasLargeEntry s
  of_view : (q : ℕ) (x : Pointstamp) → max_count < unsigned_abs (in_change (view s q) x) → HasLargeEntry s

-- every value that a vertex emits, and the number of every item, fits 64 bits
pub record IsInRange (o : Outcome) : Type 0 where
  pub emissions : All (λ e. FitsSigned w64 e.1) o.emissions
  pub items : (k : ItemKey) → FitsSigned w64 (at o.items k)

-- ---- the conditions of each kind of step, by number

-- the token would move to an epoch that is not greater than its own
abbrev pub GoesBack : Afterwards → ℕ → Type 0
GoesBack (token.To n) epoch = n ≤ epoch
GoesBack _ epoch = ⊥

abbrev pub FeedFails : ClusterState → ℕ → ℕ → List ℤ → Afterwards → ClusterState → Refusal → Type 0
FeedFails s p vertex values _ new NoProcessor = length s.processors ≤ p
FeedFails s p vertex values _ new NoVertex = length s.graph.vertices ≤ vertex
FeedFails s p vertex values _ new NotInput = op_at s.graph vertex ≢ op.Input
FeedFails s p vertex values _ new InputClosed = fin.get (processor s p).tokens vertex ≡ None
FeedFails s p vertex values _ new TooManyValues = max_values < length values
FeedFails s p vertex values next new EpochFull = (next ≡ token.Next) × (max_counter ≤ epoch_of s p vertex)
FeedFails s p vertex values _ new CountFull = HasLargeCount new
FeedFails s p vertex values _ new DeltaFull = HasLargeEntry new
FeedFails s p vertex values next new NotLater = GoesBack next (epoch_of s p vertex)
FeedFails s p vertex values _ new _ = ⊥

abbrev pub TakeFails : ClusterState → ℕ → ℕ → Time → ℤ → ClusterState → Refusal → Type 0
TakeFails s p edge t value new NoProcessor = length s.processors ≤ p
TakeFails s p edge t value new NoEdge = (edge < length s.graph.vertices) ⊎ (location_count s.graph ≤ edge)
TakeFails s p edge t value new NoRecord = at (processor s p).records (record_key edge t value) ≡ 0
TakeFails s p edge t value new CounterFull = (op_at s.graph (target_of s.graph edge) ≡ op.Feedback) × (max_counter ≤ last_of t.counters)
TakeFails s p edge t value new ValueRange = IsInRange (take_outcome s p edge t value) → ⊥
TakeFails s p edge t value new CountFull = HasLargeCount new
TakeFails s p edge t value new DeltaFull = HasLargeEntry new
TakeFails s p edge t value new _ = ⊥

abbrev pub NoticeFails : ClusterState → ℕ → ℕ → Time → ClusterState → Refusal → Type 0
NoticeFails s p vertex t new NoProcessor = length s.processors ≤ p
NoticeFails s p vertex t new NoVertex = length s.graph.vertices ≤ vertex
NoticeFails s p vertex t new NoRequest = fin.get (processor s p).requests (point_at vertex t) ≡ None
NoticeFails s p vertex t new (NotYet blocker) = IsLeast (IsPrecursor s.graph (view s p) (point_at vertex t)) blocker
NoticeFails s p vertex t new CountFull = HasLargeCount new
NoticeFails s p vertex t new DeltaFull = HasLargeEntry new
NoticeFails s p vertex t new NotNotified = (facts (op_at s.graph vertex)).holds ≡ true
NoticeFails s p vertex t new _ = ⊥

-- no capability is held at the time, or the vertex does not hold capabilities
pub data HoldsNone (s : ClusterState) (p vertex : ℕ) (t : Time) : Type 0 where
  by_operator : (facts (op_at s.graph vertex)).holds ≡ false → HoldsNone s p vertex t
  at_this_time : fin.get (processor s p).requests (point_at vertex t) ≡ None → HoldsNone s p vertex t

-- the capability is to stay beside the later one, but does not support it
abbrev pub KeepsInVain : ClusterState → ℕ → Option Later → Type 0
KeepsInVain s vertex to = (is_kept to ≡ true) × ((facts (op_at s.graph vertex)).supports ≡ false)

-- the conditions of a release; no count grows, so that of refusal 13 never holds
abbrev pub ReleaseFails : ClusterState → ℕ → ℕ → Times → ClusterState → Refusal → Type 0
ReleaseFails s p vertex times new NoProcessor = length s.processors ≤ p
ReleaseFails s p vertex times new NoVertex = length s.graph.vertices ≤ vertex
ReleaseFails s p vertex times new NoRequest = HoldsNone s p vertex times.time ⊎ KeepsInVain s vertex times.to
ReleaseFails s p vertex times new CountFull = HasLargeCount new
ReleaseFails s p vertex times new DeltaFull = HasLargeEntry new
ReleaseFails s p vertex times new NotLater = GoesLater s.graph.order times.time times.to → ⊥
ReleaseFails s p vertex times new _ = ⊥

-- the batch names a processor that is not there
abbrev pub GoesNowhere : ClusterState → Option ℕ → Type 0
GoesNowhere s None = ⊥
GoesNowhere s (Some dest) = length s.processors ≤ dest

-- no capability from which values may be sent is held at the time
pub data SendsFromNone (s : ClusterState) (p vertex : ℕ) (t : Time) : Type 0 where
  by_operator : (facts (op_at s.graph vertex)).supports ≡ false → SendsFromNone s p vertex t
  at_this_time : fin.get (processor s p).requests (point_at vertex t) ≡ None → SendsFromNone s p vertex t

abbrev pub SendFails : {A : Type 0} → ClusterState → ℕ → ℕ → Batch A → ClusterState → Refusal → Type 0
SendFails s p vertex batch new NoProcessor = (length s.processors ≤ p) ⊎ GoesNowhere s batch.dest
SendFails s p vertex batch new NoVertex = length s.graph.vertices ≤ vertex
SendFails s p vertex batch new TooManyValues = max_values < length batch.values
SendFails s p vertex batch new NoRequest = SendsFromNone s p vertex batch.time
SendFails s p vertex batch new CountFull = HasLargeCount new
SendFails s p vertex batch new DeltaFull = HasLargeEntry new
SendFails s p vertex batch new NoPort = ports (op_at s.graph vertex) ≤ batch.port
SendFails s p vertex batch new TooEarly = IsAtOrBeforeBy s.graph.order batch.time (batch_time batch) → ⊥
SendFails s p vertex batch new _ = ⊥

-- one of the queues from p holds as many changes as a queue may
abbrev pub HasFullQueue : ClusterState → ℕ → Type 0
HasFullQueue s p = (q : ℕ) × (q < length s.processors) × (max_queue ≤ length (queue s p q))

-- the conditions of a broadcast; c is the part that p would send, and x of refusal 16 is the least pointstamp at which what stays
-- is not supported
abbrev pub BroadcastFails : ClusterState → ℕ → DeltaValue → Refusal → Type 0
BroadcastFails s p c NoProcessor = length s.processors ≤ p
BroadcastFails s p c NothingToSend = c ≡ none
BroadcastFails s p c (NotAdmissible x) = IsLeast (IsUnsupported (IsStrictlyBefore s.graph) (Supports s.graph (processor s p)) (in_change (minus (processor s p).unsent c))) x
BroadcastFails s p c QueueFull = HasFullQueue s p
BroadcastFails s p c _ = ⊥

abbrev pub ReceiveFails : ClusterState → ℕ → ℕ → ClusterState → Refusal → Type 0
ReceiveFails s from to new NoProcessor = (length s.processors ≤ from) ⊎ (length s.processors ≤ to)
ReceiveFails s from to new DeltaFull = HasLargeEntry new
ReceiveFails s from to new QueueEmpty = queue s from to ≡ []
ReceiveFails s from to new _ = ⊥

-- the condition of the refusal r holds
abbrev pub Fails : {A : Type 0} → ClusterState → Step A → Refusal → Type 0
Fails {A} s (Feed p vertex values next) r = FeedFails s p vertex values next (stepped {A = A} s (Feed p vertex values next)) r
Fails {A} s (Take p edge t value) r = TakeFails s p edge t value (stepped {A = A} s (Take p edge t value)) r
Fails {A} s (Notice p vertex t) r = NoticeFails s p vertex t (stepped {A = A} s (Notice p vertex t)) r
Fails {A} s (Release p vertex times) r = ReleaseFails s p vertex times (stepped {A = A} s (Release p vertex times)) r
Fails {A} s (Send p vertex batch) r = SendFails s p vertex batch (stepped {A = A} s (Send p vertex batch)) r
Fails {A} s (Broadcast p part) r = BroadcastFails s p (chosen part (processor s p).unsent) r
Fails {A} s (Receive from to) r = ReceiveFails s from to (stepped {A = A} s (Receive from to)) r

-- what p does not send is upright; a released capability ends, or moves to a later time; what is sent is not before the capability
abbrev pub IsAdmissible : {A : Type 0} → ClusterState → Step A → Type 0
IsAdmissible s (Broadcast p part) = StaysUpright s p (chosen part (processor s p).unsent)
IsAdmissible s (Release p vertex times) = GoesLater s.graph.order times.time times.to
IsAdmissible s (Send p vertex batch) = IsAtOrBeforeBy s.graph.order batch.time (batch_time batch)
IsAdmissible s _ = Unit {0}

-- no condition of a refusal holds, and the numbers of the step fit their types, as those of every step of a program do;
-- `admissible` excludes refusals 16, 54 and 56: each entry that stays is supported, a capability moves only to a later time, and what is
-- sent is not before it
pub record IsEnabled {A : Type 0} (s : ClusterState) (x : Step A) : Type 0 where
  pub free : (r : Refusal) → Fails s x r → ⊥
  pub admissible : IsAdmissible s x
  pub numbers : NumbersFit x

-- no condition of a refusal with a number below n holds
pub record IsFreeBelow {A : Type 0} (s : ClusterState) (x : Step A) (n : ℕ) : Type 0 where
  pub free : (r : Refusal) → number_of r < n → Fails s x r → ⊥

-- refusals whose tests take no memory: the first twelve, NothingToSend and QueueEmpty
abbrev pub NeedsNoMemory : Refusal → Type 0
NeedsNoMemory r = (number_of r < 13) ⊎ ((r ≡ NothingToSend) ⊎ (r ≡ QueueEmpty))

-- no condition holds that is tested without memory; only then may the reply be out of memory
pub record MayWantMemory {A : Type 0} (s : ClusterState) (x : Step A) : Type 0 where
  pub free : (r : Refusal) → NeedsNoMemory r → Fails s x r → ⊥

-- the condition of the refusal r holds, and that of no refusal with a lesser number
pub record IsRefused {A : Type 0} (s : ClusterState) (x : Step A) (r : Refusal) : Type 0 where
  pub fails : Fails s x r
  pub least : IsFreeBelow s x (number_of r)

-- each step of the list is enabled after the steps before it
abbrev pub AreEnabled : {A : Type 0} → ClusterState → List (Step A) → Type 0
AreEnabled s [] = Unit {0}
AreEnabled s (x ∷ xs) = IsEnabled s x × AreEnabled (stepped s x) xs
