-- The form of a state: bytes that tell it apart from every other state over the same graph.
use Rattle.std.specs.Prelude.{◌≡◌, ℕ, zero, suc, ◌+◌, ℤ, nat_lt, if◌then◌else◌, List, [], ◌∷◌, ◌++◌, length, map, reverse, drop, slice_index_or}
use Rattle.std.specs.List.{flat_map, enumerate_from}
use Rattle.std.specs.Str.{bytes_eq}
use Rattle.std.specs.FinMap as fin
use Rattle.nd_map.specs.Counts.{entries}
use Rattle.nd_delta.specs.Delta.{DeltaValue}
use Rattle.nd_delta.specs.Delta.{entries as updates}
use Rattle.nd_vertex.specs.Items.{Items}
use Rattle.nd_vertex.specs.declared.key.ItemKey.{ItemKey}
use Rattle.nd_processor.specs.State.{ProcessorState}
use Rattle.nd_processor.specs.declared.key.ValueAt.{ValueAt}
use Rattle.nd_processor.specs.declared.key.SinkKey.{SinkKey}
use Rattle.nd_protocol.specs.State.{ClusterState, queue}
use Rattle.nd_protocol.specs.Fitting.{IsState}
use Rattle.nd_reach.specs.Bytes.{number, integer, list, time, point, entry}

-- ---- a processor

-- the records of a key: the pointstamp, the value and the count
abbrev pub record_form : ValueAt × ℕ → List ℕ
record_form e = point e.0.point ++ (integer e.0.value ++ number e.1)

-- a value that a sink has counted: the vertex, the value and the count
abbrev pub sink_form : SinkKey × ℕ → List ℕ
sink_form e = number e.0.vertex ++ (integer e.0.value ++ number e.1)

-- a token: the vertex and the epoch
abbrev pub token_form : ℕ × ℕ → List ℕ
token_form e = number e.0 ++ number e.1

-- an item of a vertex: the time, the item and the number
abbrev pub item_form : ItemKey × ℤ → List ℕ
item_form e = time e.0.time ++ (integer e.0.item ++ integer e.1)

-- the items of the vertex at a location: one more than the location, and the items; nothing, if the vertex has none
abbrev pub vertex_form : ℕ → List (ItemKey × ℤ) → List ℕ
vertex_form l [] = []
vertex_form l (e ∷ es) = number (l + 1) ++ list item_form (e ∷ es)

-- the items of all vertices, with 0 at the end
abbrev pub items_form : List Items → List ℕ
items_form items = flat_map (λ v. vertex_form v.0 (entries v.1)) (enumerate_from 0 items) ++ number 0

-- a change, a view or what is unsent
abbrev pub change_form : DeltaValue → List ℕ
change_form c = list entry (updates c)

abbrev pub processor_form : ProcessorState → List ℕ
processor_form q =
    list record_form (entries q.records)
    ++ (list point (fin.keys q.requests)
    ++ (list token_form (fin.entries q.tokens)
    ++ (items_form q.items
    ++ (list sink_form (entries q.sinks)
    ++ change_form q.unsent))))

-- ---- the queues from a processor

-- the longer of two lists, the first if they are as long
abbrev pub longer_of : {X : Type 0} → List X → List X → List X
longer_of xs ys = if nat_lt (length xs) (length ys) then ys else xs

-- the first of the longest lists, or the list xs if none is longer
abbrev pub longest_of : {X : Type 0} → List X → List (List X) → List X
longest_of xs [] = xs
longest_of xs (ys ∷ yss) = longest_of (longer_of xs ys) yss

abbrev pub longest : {X : Type 0} → List (List X) → List X
longest yss = longest_of [] yss

-- how many changes two lists have in common at their beginnings
abbrev pub in_common : List DeltaValue → List DeltaValue → ℕ
in_common (c ∷ cs) (d ∷ ds) = if bytes_eq (change_form c) (change_form d) then suc (in_common cs ds) else zero
in_common _ _ = zero

-- a queue, with its newest change first: how many changes it has in common with another, and the others
abbrev pub queue_form : List DeltaValue → List DeltaValue → List ℕ
queue_form other newest = number (in_common other newest) ++ list change_form (drop (in_common other newest) newest)

-- The queues from a processor: the longest, and each queue as what it has in common with the longest. What a processor broadcasts
-- goes into all of its queues, so most of them are ends of the longest.
abbrev pub row_form : List (List DeltaValue) → List ℕ
row_form row =
    let newest = map reverse row in
    list change_form (longest newest) ++ flat_map (queue_form (longest newest)) newest

-- ---- a cluster

-- the changes in the queue from p to q, the newest first
abbrev pub newest_first : ClusterState → ℕ → ℕ → List DeltaValue
newest_first s p q = reverse (queue s p q)

-- the queues from p, each with its newest change first
abbrev pub rows_newest : ClusterState → ℕ → List (List DeltaValue)
rows_newest s p = map reverse (slice_index_or s.queues p [])

-- the form of a state of a cluster with a graph
unfoldable pub form : ClusterState → List ℕ
form s = flat_map processor_form s.processors ++ (flat_map change_form s.views ++ flat_map row_form s.queues)

-- two states over one graph with the same number of processors are the same exactly if their forms are
abbrev pub FormsDetermineStates : Type 0
FormsDetermineStates =
    (s t : ClusterState) → IsState s → IsState t → s.graph ≡ t.graph → length s.processors ≡ length t.processors → form s ≡ form t → s ≡ t
