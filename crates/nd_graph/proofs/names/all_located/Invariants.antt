use Rattle.std.proofs.Common.{◌≡◌, Some, take}
use Rattle.nd_graph.specs.Draft.{every}
use Rattle.nd_graph.specs.Checked.{located}
use Rattle.nd_graph.proofs.names.all_located.Given as goal

abbrev pub invariant-loop-edge : goal.invariant-loop-edge
invariant-loop-edge g l = every (located l.vertices) (take l.edge-index l.edges) ≡ Some l.found.items
