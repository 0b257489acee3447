use Rattle.std.proofs.Common.{rules}
use Rattle.nd_vertex.proofs.effect.ItemEdit.turned.Goals as goal

pub returns : goal.returns
returns c = search rules
