-- The state as a JSON value: each list in the order of listing, with the names of locations.
use Rattle.std.specs.Prelude.{ℕ, ℤ, List, [], ◌∷◌, map, slice_index_or, codes}
use Rattle.std.specs.List.{flat_map, enumerate_from, zip}
use Rattle.std.specs.FinMap as fin
use Rattle.nd_map.specs.Counts.{entries as numbers}
use Rattle.serde_json.specs.Data.{Data, number, string, array, object, unsigned, no_members, member}
use Rattle.serde_json.specs.Find.{of_integer}
use Rattle.serde_json.specs.View.{items_of}
use Rattle.nd_time.specs.Time.{Time}
use Rattle.nd_graph.specs.Graph.{Dataflow, names}
use Rattle.nd_paths.specs.declared.point.Pointstamp.{Pointstamp}
use Rattle.nd_delta.specs.Delta.{DeltaValue, entries}
use Rattle.nd_protocol.specs.State.{ClusterState}
use Rattle.nd_vertex.specs.declared.key.ItemKey.{ItemKey}
use Rattle.nd_processor.specs.State.{ProcessorState}
use Rattle.nd_processor.specs.declared.key.ValueAt.{ValueAt}
use Rattle.nd_processor.specs.declared.key.SinkKey.{SinkKey}

-- ---- the parts of an entry

-- the name of a location; empty if there is no such location
abbrev pub name_at : Dataflow → ℕ → List ℕ
name_at g l = slice_index_or (names g) l []

-- a list of values as a JSON array
abbrev pub row : List Data → Data
row ds = array (items_of ds)

-- a natural number
abbrev pub natural : ℕ → Data
natural n = number (unsigned n)

-- an integer
abbrev pub whole : ℤ → Data
whole z = number (of_integer z)

-- the name of a location as a JSON string
abbrev pub place : Dataflow → ℕ → Data
place g l = string (name_at g l)

-- a time as [epoch,c1,...]
abbrev pub time_data : Time → Data
time_data t = row (map natural (t.epoch ∷ t.counters))

-- ---- entries

-- a pointstamp as [location,time]
abbrev pub point_data : Dataflow → Pointstamp → Data
point_data g p = row (place g p.location ∷ time_data p.time ∷ [])

-- an item of a vertex as [vertex,time,item,n]
abbrev pub item_data : Dataflow → ℕ → ItemKey × ℤ → Data
item_data g vertex e = row (place g vertex ∷ time_data e.0.time ∷ whole e.0.item ∷ whole e.1 ∷ [])

-- the records of a key as [edge,time,value,n]
abbrev pub record_data : Dataflow → ValueAt × ℕ → Data
record_data g e = row (place g e.0.point.location ∷ time_data e.0.point.time ∷ whole e.0.value ∷ natural e.1 ∷ [])

-- a value that a sink has counted as [vertex,value,n]
abbrev pub sink_data : Dataflow → SinkKey × ℕ → Data
sink_data g e = row (place g e.0.vertex ∷ whole e.0.value ∷ natural e.1 ∷ [])

-- a token as [vertex,epoch]
abbrev pub token_data : Dataflow → ℕ × ℕ → Data
token_data g e = row (place g e.0 ∷ natural e.1 ∷ [])

-- an entry of a change as [location,time,n]
abbrev pub entry_data : Dataflow → Pointstamp × ℤ → Data
entry_data g e = row (place g e.0.location ∷ time_data e.0.time ∷ whole e.1 ∷ [])

-- pointstamps with their counts as a JSON array, in the same order
abbrev pub entries_data : Dataflow → List (Pointstamp × ℤ) → Data
entries_data g es = row (map (entry_data g) es)

-- ---- processors and clusters

-- the JSON object of a processor, from these lists
abbrev pub processor_members : Data → Data → Data → Data → Data → Data → Data → Data
processor_members items records requests sinks tokens unsent view =
    object (member (codes "items") items
    (member (codes "records") records
    (member (codes "requests") requests
    (member (codes "sinks") sinks
    (member (codes "tokens") tokens
    (member (codes "unsent") unsent
    (member (codes "view") view no_members)))))))

-- the items of all vertices of a processor, vertex by vertex
abbrev pub items_data : Dataflow → ProcessorState → List Data
items_data g q = flat_map (λ i. map (item_data g i.0) (numbers i.1)) (enumerate_from 0 q.items)

-- a processor and its view
unfoldable pub processor_data : Dataflow → ProcessorState → DeltaValue → Data
processor_data g q view =
    processor_members (row (items_data g q)) (row (map (record_data g) (numbers q.records))) (row (map (point_data g) (fin.keys q.requests)))
    (row (map (sink_data g) (numbers q.sinks))) (row (map (token_data g) (fin.entries q.tokens))) (entries_data g (entries q.unsent)) (entries_data g (entries view))

-- a queue, its changes from front to back
abbrev pub queue_data : Dataflow → List DeltaValue → Data
queue_data g changes = row (map (λ c. entries_data g (entries c)) changes)

-- the queues of one sender
abbrev pub queues_data : Dataflow → List (List DeltaValue) → Data
queues_data g queues = row (map (queue_data g) queues)

-- the JSON object of a cluster, from these lists
abbrev pub whole_members : Data → Data → Data
whole_members processors queues = object (member (codes "processors") processors (member (codes "queues") queues no_members))

-- the same, from the JSON values of its processors and of its queues
abbrev pub whole_data : List Data → List Data → Data
whole_data processors queues = whole_members (row processors) (row queues)

-- the state of a cluster as a JSON object
unfoldable pub state_data : ClusterState → Data
state_data s = whole_data (map (λ e. processor_data s.graph e.0 e.1) (zip s.processors s.views)) (map (queues_data s.graph) s.queues)
