use Rattle.std.proofs.Common.{◌≡◌, length, take}
use Rattle.nd_graph.specs.Graph.{arcs_from}
use Rattle.nd_graph.proofs.build.arcs_of.Given as goal

abbrev pub invariant-loop-index : goal.invariant-loop-index
invariant-loop-index g l = l.arcs.items ≡ arcs_from l.vertices (length l.vertices) (take l.index l.edges)
