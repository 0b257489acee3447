use Rattle.std.proofs.Common.{rules}
use Rattle.nd_graph.proofs.graph.Graph.location_count.Goals as goal

pub returns-clause-count : goal.returns-clause-count
returns-clause-count g c = search rules
