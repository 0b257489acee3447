use Rattle.std.proofs.Common.{◌∙◌, refl}
use Rattle.rewind_lines.proofs.ReaderLaws.{held-next}
use Rattle.rewind_lines.proofs.reader.LineReader.begin_next.Goals as goal

pub returns-clause-next : goal.returns-clause-next
returns-clause-next c = λ before done h. held-next _ _ before _ done c.clear.ensures refl (c.self.view_is ∙ h)
