use Rattle.std.proofs.lemmas.Result.{on_ok_weaker}
use Rattle.nd_why.proofs.Turns.{held_more}
use Rattle.nd_why.proofs.holdings.push_held.Goals as goal

pub returns : goal.returns
returns g c =
    on_ok_weaker c.push_tokens.result
    (held_more c.args.p c.args.processor.now c.args.point.now c.args.held.now.items c.push_records.new.held.items c.push_requests.new.held.items c.push_tokens.new.held.items c.in_ok-push_records.ensures c.in_ok-push_requests.ensures)
    c.push_tokens.ensures
