-- Keys that fit a graph, entry by entry.
use Rattle.std.specs.Prelude.{◌≡◌, ◌≢◌, ◌<◌, ℕ, ℤ, pos, List, All, length}
use Rattle.nd_map.specs.Counts.{entries}
use Rattle.nd_graph.specs.Graph.{Dataflow, op_at}
use Rattle.nd_graph.specs.declared.op.Op.TheVariants as op
use Rattle.nd_vertex.specs.Items.{Items}
use Rattle.nd_vertex.specs.declared.key.ItemKey.{ItemKey}
use Rattle.nd_processor.specs.State.{token_point}
use Rattle.nd_processor.specs.declared.key.ValueAt.{ValueAt}
use Rattle.nd_processor.specs.declared.key.SinkKey.{SinkKey}
use Rattle.nd_delta.specs.Delta.{DeltaValue}
use Rattle.nd_mesh.specs.Mesh.{queue}
use Rattle.nd_protocol.specs.Ranges.{IsValue}
use Rattle.nd_protocol.specs.Fitting.{IsAtVertex, IsAtEdge, DeltaFits, DeltaIsWithin}

-- an input vertex may have a token at the epoch
abbrev pub IsToken : Dataflow → ℕ → ℕ → Type 0
IsToken g vertex epoch = (op_at g vertex ≡ op.Input) × IsAtVertex g (token_point vertex epoch)

-- the vertex is a sink
abbrev pub IsSink : Dataflow → ℕ → Type 0
IsSink g vertex = (op_at g vertex ≡ op.Sink) × (vertex < length g.vertices)

-- a record may be at the key's pointstamp, with the key's value
abbrev pub IsRecordKey : Dataflow → ValueAt → Type 0
IsRecordKey g k = IsAtEdge g k.point × IsValue k.value

-- the key's vertex is a sink, which may have counted its value
abbrev pub IsSinkKey : Dataflow → SinkKey → Type 0
IsSinkKey g k = (op_at g k.vertex ≡ op.Sink) × (k.vertex < length g.vertices) × IsValue k.value

-- a vertex may have the item, with this number
abbrev pub IsItem : Dataflow → ℕ → ItemKey → ℤ → Type 0
IsItem g vertex k n = IsAtVertex g (record { location = vertex; time = k.time }) × IsValue k.item × IsValue n

-- a vertex may have each of these items
abbrev pub ItemsFit : Dataflow → ℕ → Items → Type 0
ItemsFit g vertex m = All (λ (e : ItemKey × ℤ). e.1 ≢ pos 0 → IsItem g vertex e.0 e.1) (entries m)

-- the changes in the queues from a processor have entries only at pointstamps of the graph
abbrev pub RowFits : Dataflow → List (List (List DeltaValue)) → ℕ → Type 0
RowFits g m p = (q : ℕ) → q < length m → All (DeltaFits g) (queue m p q)

abbrev pub RowIsWithin : List (List (List DeltaValue)) → ℕ → Type 0
RowIsWithin m p = (q : ℕ) → q < length m → All DeltaIsWithin (queue m p q)
