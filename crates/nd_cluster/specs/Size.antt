-- How many entries a cluster's maps and queues have.
use Rattle.std.specs.Prelude.{◌≡◌, ℕ, ◌+◌, ◌<◌, List, length, sum_by, Option, MatchOption}
use Rattle.std.specs.FinMap as fin
use Rattle.nd_map.specs.Counts.{entries}
use Rattle.nd_delta.specs.Delta.{DeltaValue, size}
use Rattle.nd_processor.specs.State.{ProcessorState}
use Rattle.nd_protocol.specs.State.{ClusterState}

-- the entries of a processor's maps, and one for each vertex
abbrev pub processor_size : ProcessorState → ℕ
processor_size q =
    length (entries q.records)
    + (length (fin.entries q.requests)
    + (length (fin.entries q.tokens)
    + (length (entries q.sinks) + (size q.unsent + (length q.items + sum_by (λ m. length (entries m)) q.items)))))

-- the entries of the changes of a queue, and one for each change
abbrev pub queue_size : List DeltaValue → ℕ
queue_size changes = length changes + sum_by size changes

-- the entries of all queues, and one for each queue
abbrev pub queues_size : List (List (List DeltaValue)) → ℕ
queues_size m = sum_by (λ row. length row + sum_by queue_size row) m

-- the entries of everything in a cluster that steps change
abbrev pub size_of : ClusterState → ℕ
size_of s = sum_by processor_size s.processors + (sum_by size s.views + queues_size s.queues)

-- `left` is `many` - n; None if n is greater than `many`
abbrev pub Leaves : ℕ → ℕ → Option ℕ → Type 0
Leaves many n left = MatchOption left (many < n) (λ rest. rest + n ≡ many)
