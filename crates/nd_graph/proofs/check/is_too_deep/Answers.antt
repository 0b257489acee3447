use Rattle.std.proofs.Common.{rules}
use Rattle.nd_graph.proofs.check.is_too_deep.Goals as goal

pub returns-then-leads_in : goal.returns-then-leads_in
returns-then-leads_in c = search rules
