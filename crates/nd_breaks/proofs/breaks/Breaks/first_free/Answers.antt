use Rattle.std.proofs.Common.{rules}
use Rattle.nd_breaks.proofs.breaks.Breaks.first_free.Goals as goal

pub returns-clause-none : goal.returns-clause-none
returns-clause-none g c = search rules
