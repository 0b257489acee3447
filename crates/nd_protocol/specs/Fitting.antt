-- When the keys of a cluster's maps fit its graph, and its numbers their limits.
use Rattle.std.specs.Prelude.{◌≡◌, ◌≢◌, ◌<◌, ◌≤◌, ℕ, pos, List, All, length, Some, unsigned_abs}
use Rattle.std.specs.FinMap as fin
use Rattle.nd_time.specs.Limits.{max_count, max_processors, max_queue}
use Rattle.nd_map.specs.Counts.{at}
use Rattle.nd_graph.specs.Graph.{Dataflow, ArcAgrees, arcs, depths, op_at}
use Rattle.nd_graph.specs.Checked.{JoinsVertices}
use Rattle.nd_graph.specs.declared.op.Op.TheVariants as op
use Rattle.nd_paths.specs.Order.{Fits, IsAccepted}
use Rattle.nd_paths.specs.declared.point.Pointstamp.{Pointstamp}
use Rattle.nd_delta.specs.Delta.{DeltaValue, at as in_change}
use Rattle.nd_vertex.specs.declared.key.ItemKey.{ItemKey}
use Rattle.nd_processor.specs.State.{ProcessorState, token_point, items_at}
use Rattle.nd_processor.specs.declared.key.ValueAt.{ValueAt}
use Rattle.nd_processor.specs.declared.key.SinkKey.{SinkKey}
use Rattle.nd_protocol.specs.State.{ClusterState}
use Rattle.nd_protocol.specs.Ranges.{TimeIsSmall, IsValue}

-- edges join vertices, depths agree along the arcs, and no closed walk turns a timestamp into one at or before it
pub record IsOrdered (g : Dataflow) : Type 0 where
  pub joined : All (JoinsVertices g.vertices) g.edges
  pub agree : All (ArcAgrees (depths g)) (arcs g)
  pub accepted : IsAccepted g

-- x is at a vertex of the graph and has its depth, and its epoch and counters fit their types; `IsAtEdge` is the same for an edge
pub record IsAtVertex (g : Dataflow) (x : Pointstamp) : Type 0 where
  pub place : x.location < length g.vertices
  pub fits : Fits g x
  pub small : TimeIsSmall x.time

pub record IsAtEdge (g : Dataflow) (x : Pointstamp) : Type 0 where
  pub place : length g.vertices ≤ x.location
  pub fits : Fits g x
  pub small : TimeIsSmall x.time

-- the same for a vertex or an edge
pub record IsAtLocation (g : Dataflow) (x : Pointstamp) : Type 0 where
  pub fits : Fits g x
  pub small : TimeIsSmall x.time

-- each pointstamp with an entry in the change is one of the graph
abbrev pub DeltaFits : Dataflow → DeltaValue → Type 0
DeltaFits g c = (x : Pointstamp) → in_change c x ≢ pos 0 → IsAtLocation g x

-- each key of a processor's maps is at a location of the graph at which such a key may be, with a time of that location's depth;
-- its numbers, and those of items, fit their types
pub record ProcessorFits (g : Dataflow) (q : ProcessorState) : Type 0 where
  pub records : (k : ValueAt) → at q.records k ≢ 0 → IsAtEdge g k.point × IsValue k.value
  pub requests : (x : Pointstamp) → fin.get q.requests x ≡ Some tt → IsAtVertex g x
  pub tokens : (vertex epoch : ℕ) → fin.get q.tokens vertex ≡ Some epoch → (op_at g vertex ≡ op.Input) × IsAtVertex g (token_point vertex epoch)
  pub vertices : length q.items ≡ length g.vertices
  pub items : (vertex : ℕ) (k : ItemKey) → at (items_at q vertex) k ≢ pos 0 → IsAtVertex g (record { location = vertex; time = k.time }) × IsValue k.item × IsValue (at (items_at q vertex) k)
  pub sinks : (k : SinkKey) → at q.sinks k ≢ 0 → (op_at g k.vertex ≡ op.Sink) × (k.vertex < length g.vertices) × IsValue k.value
  pub unsent : DeltaFits g q.unsent

-- the keys of all processors, views and queues fit the graph; each processor has a view, and a queue to each processor
pub record KeysFit (s : ClusterState) : Type 0 where
  pub processors : All (ProcessorFits s.graph) s.processors
  pub views : All (DeltaFits s.graph) s.views
  pub queues : All (λ row. All (λ changes. All (DeltaFits s.graph) changes) row) s.queues
  pub each_view : length s.views ≡ length s.processors
  pub each_sender : length s.queues ≡ length s.processors
  pub each_receiver : All (λ row. length row ≡ length s.processors) s.queues

-- no number of a processor exceeds its limit
pub record ProcessorIsWithin (q : ProcessorState) : Type 0 where
  pub records : (k : ValueAt) → at q.records k ≤ max_count
  pub sinks : (k : SinkKey) → at q.sinks k ≤ max_count
  pub unsent : (x : Pointstamp) → unsigned_abs (in_change q.unsent x) ≤ max_count

-- no entry of a change exceeds its limit
abbrev pub DeltaIsWithin : DeltaValue → Type 0
DeltaIsWithin c = (x : Pointstamp) → unsigned_abs (in_change c x) ≤ max_count

-- a queue is not longer than its limit, and no entry of its changes exceeds its limit
pub record QueueIsWithin (changes : List DeltaValue) : Type 0 where
  pub few : length changes ≤ max_queue
  pub entries : All DeltaIsWithin changes

-- no number of a cluster exceeds its limit, and there are 1 to max_processors processors
pub record IsWithinLimits (s : ClusterState) : Type 0 where
  pub some : 0 < length s.processors
  pub few : length s.processors ≤ max_processors
  pub processors : All ProcessorIsWithin s.processors
  pub views : All DeltaIsWithin s.views
  pub queues : All (λ row. All QueueIsWithin row) s.queues

-- a state that a cluster may be in, reachable or not
pub record IsState (s : ClusterState) : Type 0 where
  pub ordered : IsOrdered s.graph
  pub fits : KeysFit s
  pub within : IsWithinLimits s
