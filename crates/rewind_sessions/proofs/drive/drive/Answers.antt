use Rattle.std.proofs.Common.{rules, ◌≡◌, ◌++◌, ◌∙◌, length, take, map, sym, ap}
use Rattle.std.proofs.lemmas.List.{map-id}
use Rattle.std.proofs.lemmas.Iterator.Adapters.{YieldsList-from_vec}
use Rattle.std.proofs.lemmas.Iterator.Consumers.{YieldsList-so_far, YieldsList-turn}
use Rattle.nd_commands.specs.declared.command.Command.{Command}
use Rattle.std.specs.declared.alloc.Global.{Global}
use Rattle.rewind_sessions.specs.Served.{asked}
use Rattle.rewind_sessions.proofs.drive.drive.Goals as goal

pub returns-in-Err-clause-served : goal.returns-in-Err-clause-served
returns-in-Err-clause-served g c = λ fresh.
    let ys = c.loop-command.yielded in
    let road = YieldsList-from_vec {s = c.into_iter-command-iterator.result} c.args.commands.items (search rules) (search rules) in
    let turn = YieldsList-turn road ys c.loop-command.command-iterator c.loop-command.yielded_by c.next.result c.next.new.self c.in-Some.command c.in-Some.is c.next.ensures.steps in
    let so_far : map (λ (y : Command Global). y) ys ≡ take (length ys) c.args.commands.items = YieldsList-so_far road ys _ c.loop-command.yielded_by in
    (length ys, turn.0, ap (λ p. asked p.receipts) c.in-Err.ensures.same ∙ (c.loop-command.invariant.made ∙ (ap (λ rs. asked rs ++ ys) fresh ∙ (sym (map-id ys) ∙ so_far))))
