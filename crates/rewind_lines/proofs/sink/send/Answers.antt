use Rattle.std.proofs.Common.{◌∙◌, ◌≤◌, length, drop, arith, length-drop, take-add}
use Rattle.std.proofs.lemmas.List.{take_rest}
use Rattle.rewind_lines.specs.Known.{Appends-append}
use Rattle.rewind_lines.proofs.Refuses.{refuses-none}
use Rattle.rewind_lines.proofs.sink.send.Goals as goal

pub parts-preserved : goal.parts-preserved
parts-preserved g c =
    let more = rw (take_rest c.args.bytes.now c.parts.sent) at c.in-Ok.ensures.bytes in
    let fits : c.in-Ok.n ≤ length (drop c.parts.sent c.args.bytes.now) = rw (take_rest c.args.bytes.now c.parts.sent) at c.in-Ok.ensures.within in
    record {
      within = omega (arith, length-drop c.parts.sent c.args.bytes.now);
      appended = rw (take-add c.parts.sent c.in-Ok.n c.args.bytes.now) (Appends-append _ _ _ _ _ c.parts.invariant.appended more);
      sound = c.in-Ok.ensures.failed ∙ refuses-none c.in-Ok.n _ c.in-Ok.n-test.1;
    }
