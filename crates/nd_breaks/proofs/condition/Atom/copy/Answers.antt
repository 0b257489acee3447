use Rattle.std.proofs.Common.{rules}
use Rattle.nd_breaks.proofs.condition.Atom.copy.Goals as goal

pub returns-in-Queue : goal.returns-in-Queue
returns-in-Queue c = search rules
