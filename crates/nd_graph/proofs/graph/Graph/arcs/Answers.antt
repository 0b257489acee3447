use Rattle.std.proofs.Common.{rules}
use Rattle.nd_graph.proofs.graph.Graph.arcs.Goals as goal

pub returns : goal.returns
returns g c = search rules
