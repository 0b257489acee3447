use Rattle.std.proofs.Common.{rules}
use Rattle.nd_graph.proofs.check.are_too_many.Goals as goal

pub returns-else-many-vertices : goal.returns-else-many-vertices
returns-else-many-vertices c = search rules
