use Rattle.std.proofs.Common.{rules}
use Rattle.nd_breaks.proofs.breaks.Breaks.new.Goals as goal

pub returns : goal.returns
returns g c = search rules
