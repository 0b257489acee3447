use Rattle.std.proofs.Common.{◌∙◌, ap, sym, option_map}
use Rattle.serde_json.specs.View.{view}
use Rattle.rewind_lines.specs.Lines.{json_of}
use Rattle.rewind_lines.proofs.LineLaws.{reading-blank, reading-long, reading-text}
use Rattle.rewind_lines.proofs.line.Line.reading.Goals as goal

pub returns-then-self-clause-reading : goal.returns-then-self-clause-reading
returns-then-self-clause-reading g c = λ limit line h. reading-blank _ limit line (c.self.view_is ∙ h) c.if-self.true

pub returns-then-self-2-clause-reading : goal.returns-then-self-2-clause-reading
returns-then-self-2-clause-reading g c = λ limit line h. reading-long _ limit line (c.self.view_is ∙ h) c.if-self.false c.if-self-2.true

pub returns-in-Some-clause-reading : goal.returns-in-Some-clause-reading
returns-in-Some-clause-reading g c = λ limit line h. reading-text _ limit line _ (c.self.view_is ∙ h) c.if-self.false c.if-self-2.false
    (ap (option_map view) (sym c.in-Some.is) ∙ (c.in_ok-value.ensures ∙ ap json_of c.as_slice.ensures.value))

pub returns-in-None-clause-reading : goal.returns-in-None-clause-reading
returns-in-None-clause-reading g c = λ limit line h. reading-text _ limit line _ (c.self.view_is ∙ h) c.if-self.false c.if-self-2.false
    (ap (option_map view) (sym c.in-None.is) ∙ (c.in_ok-value.ensures ∙ ap json_of c.as_slice.ensures.value))
