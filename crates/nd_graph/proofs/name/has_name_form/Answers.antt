use Rattle.std.proofs.Common.{rules}
use Rattle.nd_graph.proofs.name.has_name_form.Goals as goal

pub returns : goal.returns
returns c = search rules
