use Rattle.std.proofs.Common.{refl}
use Rattle.rewind_lines.proofs.ReaderLaws.{held-first}
use Rattle.rewind_lines.proofs.reader.LineReader.new.Goals as goal

pub returns-clause-first : goal.returns-clause-first
returns-clause-first c = held-first _ _ c.new.ensures refl
