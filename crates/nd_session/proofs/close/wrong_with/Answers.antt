use Rattle.nd_session.proofs.Whole.{right_with, wrong_with}
use Rattle.nd_session.proofs.close.wrong_with.Goals as goal

pub returns-then-is_new-clause-right : goal.returns-then-is_new-clause-right
returns-then-is_new-clause-right g c =
    right_with c.args.log.now c.args.clients.now c.args.k c.args.client.now c.receipts.result.now c.number.result
    c.receipts.ensures.own c.receipts.ensures.value c.number.ensures c.in_default.ensures.none c.if-is_new.ensures

pub returns-else-is_new-clause-wrong : goal.returns-else-is_new-clause-wrong
returns-else-is_new-clause-wrong g c =
    wrong_with c.args.log.now c.args.clients.now c.args.k c.args.client.now c.receipts.result.now c.number.result
    c.receipts.ensures.value c.number.ensures c.in_default.ensures.none c.if-is_new.ensures
