use Rattle.std.proofs.Common.{◌∙◌, refl, take}
use Rattle.rewind_lines.proofs.ReaderLaws.{ends-line, held-on, no-newline}
use Rattle.rewind_lines.proofs.reader.LineReader.take.Goals as goal

pub returns-in_ok-extend-in-None-clause-part : goal.returns-in_ok-extend-in-None-clause-part
returns-in_ok-extend-in-None-clause-part c =
    let none = no-newline c.args.bytes.now c.in-None.ensures in
    (none, λ limit done h. held-on _ _ limit done c.args.bytes.now none c.in_ok-extend-in-None.ensures.ok refl (c.self.view_is ∙ h))

pub returns-in_ok-extend-in-Some-clause-whole : goal.returns-in_ok-extend-in-Some-clause-whole
returns-in_ok-extend-in-Some-clause-whole c =
    let bytes = c.args.bytes.now in
    let i = c.in-Some.i in
    let ends = ends-line bytes i c.in-Some.ensures.0 c.in-Some.ensures.1 in
    (take i bytes, ends, λ limit done h. held-on _ _ limit done (take i bytes) ends.one_line (rw c.front.ensures at c.in_ok-extend-in-Some.ensures.ok) refl (c.self.view_is ∙ h))
