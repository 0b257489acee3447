use Rattle.std.proofs.Common.{rules}
use Rattle.nd_breaks.proofs.breaks.Breaks.set.Goals as goal

pub returns-in-Some-clause-ok : goal.returns-in-Some-clause-ok
returns-in-Some-clause-ok g c = search rules

pub returns-in-Some-clause-least : goal.returns-in-Some-clause-least
returns-in-Some-clause-least g c = search rules
