use Rattle.std.proofs.Common.{◌∙◌, ap}
use Rattle.std.proofs.lemmas.Result.{IfOk-weaker}
use Rattle.rewind_lines.specs.Lines.{last_line_of}
use Rattle.rewind_lines.proofs.reader.LineReader.reading.Goals as goal

pub returns-clause-reading : goal.returns-clause-reading
returns-clause-reading c = IfOk-weaker c.reading.result _ _ (λ _ h limit done e. h limit (last_line_of done) (ap (λ f. f.line) (c.self.view_is ∙ e))) c.reading.ensures.reading
