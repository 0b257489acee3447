use Rattle.nd_session.proofs.ReceiptLemmas.{seen, copy_may_fail}
use Rattle.nd_session.proofs.session.Session.copy.Goals as goal

pub returns-clause-seen : goal.returns-clause-seen
returns-clause-seen g c =
    let was = c.deref.result.now in
    seen was.state.log was.state.machine c.copy.ensures.history was.entered c.args.client.now c.copy.result c.copy.ensures.value c.copy.ensures.known

pub returns-clause-fails : goal.returns-clause-fails
returns-clause-fails g c =
    let was = c.deref.result.now in
    copy_may_fail was.state.log was.state.machine c.copy.ensures.history was.entered c.args.client.now c.copy.result c.copy.ensures.fails
