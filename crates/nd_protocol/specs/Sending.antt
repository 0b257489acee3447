-- What a send changes: the records, key by key, and what its processor has to send.
use Rattle.std.specs.Prelude.{◌≡◌, ◌≢◌, ◌<◌, ◌≤◌, ◌+◌, ◌-◌, ◌+ℤ◌, ◌-ℤ◌, ℕ, ℤ, length, count_by, Some, slice_get}
use Rattle.std.specs.Ordering.{int_eq}
use Rattle.nd_map.specs.Counts.{at}
use Rattle.nd_graph.specs.Graph.{Dataflow}
use Rattle.nd_graph.specs.declared.graph.Edge.{Edge}
use Rattle.nd_paths.specs.declared.point.Pointstamp.{Pointstamp}
use Rattle.nd_delta.specs.Delta.{at as in_change}
use Rattle.nd_processor.specs.declared.key.ValueAt.{ValueAt}
use Rattle.nd_protocol.specs.State.{ClusterState, processor, truth}
use Rattle.nd_protocol.specs.Steps.{directed, record_key, batch_time}
use Rattle.nd_protocol.specs.declared.batch.Batch.{Batch}

-- some processor has more records of the key in t than in s
abbrev pub Appears : ClusterState → ClusterState → ValueAt → Type 0
Appears s t r = (k : ℕ) × (at (processor s k).records r < at (processor t k).records r)

-- e is the edge at the location l, and leaves the vertex on the port
pub record LeavesOn (g : Dataflow) (vertex port l : ℕ) (e : Edge) : Type 0 where
  pub place : length g.vertices ≤ l
  pub edge : slice_get g.edges (l - length g.vertices) ≡ Some e
  pub from : e.from ≡ vertex
  pub on : e.port ≡ port

-- t is s after processor p has sent a batch from a vertex
pub record IsAfterSend {A : Type 0} (s t : ClusterState) (p vertex : ℕ) (b : Batch A) : Type 0 where
  -- on each edge of the port there is one record more for each of the values, on the processor to which it goes
  pub made : (l : ℕ) (e : Edge) (v : ℤ) → LeavesOn s.graph vertex b.port l e
      → at (processor t (directed b.dest e.route (length s.processors) p v)).records (record_key l (batch_time b) v)
      ≡ at (processor s (directed b.dest e.route (length s.processors) p v)).records (record_key l (batch_time b) v) + count_by (int_eq v) b.values
  -- there are as many of all other records as before
  pub others : (k : ℕ) (r : ValueAt) → ((e : Edge) → LeavesOn s.graph vertex b.port r.point.location e → r.point.time ≡ batch_time b → k ≡ directed b.dest e.route (length s.processors) p r.value → ⊥)
      → at (processor t k).records r ≡ at (processor s k).records r
  -- what is added to the truth becomes unsent at p
  pub unsent : (x : Pointstamp) → in_change (processor t p).unsent x ≡ in_change (processor s p).unsent x +ℤ (in_change (truth t.processors) x -ℤ in_change (truth s.processors) x)
  pub unsent_others : (k : ℕ) → k ≢ p → (processor t k).unsent ≡ (processor s k).unsent
  -- all else stays
  pub requests : (k : ℕ) → (processor t k).requests ≡ (processor s k).requests
  pub tokens : (k : ℕ) → (processor t k).tokens ≡ (processor s k).tokens
  pub items : (k : ℕ) → (processor t k).items ≡ (processor s k).items
  pub sinks : (k : ℕ) → (processor t k).sinks ≡ (processor s k).sinks
  pub many : length t.processors ≡ length s.processors
  pub graph : t.graph ≡ s.graph
  pub views : t.views ≡ s.views
  pub queues : t.queues ≡ s.queues
