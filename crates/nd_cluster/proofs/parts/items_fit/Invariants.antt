use Rattle.std.proofs.Common.{◌<◌, ℕ}
use Rattle.nd_processor.specs.State.{items_at}
use Rattle.nd_cluster.specs.Parts.{ItemsFit}
use Rattle.nd_cluster.proofs.parts.items_fit.Given as goal

abbrev pub invariant-loop-vertex : goal.invariant-loop-vertex
invariant-loop-vertex g l = (v : ℕ) → v < l.vertex → ItemsFit l.graph v (items_at l.processor v)
