use Rattle.std.proofs.Common.{rules}
use Rattle.rewind_lines.proofs.sink.WriteSinkSink.write.Goals as goal

pub returns-else-n-eq0-clause-failed : goal.returns-else-n-eq0-clause-failed
returns-else-n-eq0-clause-failed g c = search rules
