-- Why a graph has no order.
use Rattle.std.specs.Prelude.{ℕ, ◌<◌}
use Rattle.nd_graph.specs.Graph.{Dataflow}
use Rattle.nd_summaries.specs.declared.accept.PathFault.{PathFault}
use Rattle.nd_summaries.specs.declared.accept.PathFault.TheVariants.{LoopNotStrict, Memory}
use Rattle.nd_summaries.specs.Walk.{FailsBy}

-- the least location from which a closed walk fails, or out of memory
abbrev pub IsFault : Dataflow → PathFault → Type 0
IsFault g (LoopNotStrict l) = FailsBy g.order g l × ((k : ℕ) → k < l → FailsBy g.order g k → ⊥)
IsFault g Memory = Unit {0}
