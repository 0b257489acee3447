use Rattle.std.proofs.Common.{rules}
use Rattle.rewind_lines.proofs.source.ReadSource.new.Goals as goal

pub returns-clause-unread : goal.returns-clause-unread
returns-clause-unread g c = search rules
