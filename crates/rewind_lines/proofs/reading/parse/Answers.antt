use Rattle.std.proofs.Common.{◌∙◌, sym}
use Rattle.rewind_lines.proofs.LineLaws.{json_of-none, json_of-utf8}
use Rattle.rewind_lines.proofs.reading.parse.Goals as goal

pub returns-in-Ok : goal.returns-in-Ok
returns-in-Ok c = sym c.in-Ok.ensures.ok.1 ∙ sym (json_of-utf8 c.args.line.now c.in-Ok.ensures.ok.0)

pub returns-in-Err-2 : goal.returns-in-Err-2
returns-in-Err-2 c = sym (json_of-none c.args.line.now (c.in-Err.ensures.err (λ m. let bad = c.if-is_memory.ensures.1 m in cc)))
