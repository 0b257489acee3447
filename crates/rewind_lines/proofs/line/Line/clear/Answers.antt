use Rattle.std.proofs.Common.{rules}
use Rattle.rewind_lines.proofs.line.Line.clear.Goals as goal

pub returns : goal.returns
returns g c = search rules
