-- What the sinks of a cluster counted.
use Rattle.std.specs.Prelude.{ℕ, ℤ, List, sum_by}
use Rattle.nd_map.specs.Counts.{at}
use Rattle.nd_processor.specs.State.{ProcessorState}

-- how often the sink of a processor at this vertex counted a value
abbrev pub sunk_by : ℕ → ℤ → ProcessorState → ℕ
sunk_by vertex value q = at q.sinks (record { vertex = vertex; value = value })

-- how often the sinks of all processors at this vertex counted a value
abbrev pub sunk : List ProcessorState → ℕ → ℤ → ℕ
sunk processors vertex value = sum_by (sunk_by vertex value) processors
