use Rattle.std.proofs.Common.{rules}
use Rattle.nd_graph.proofs.graph.Graph.depths.Goals as goal

pub returns-clause-depths : goal.returns-clause-depths
returns-clause-depths g c = search rules
