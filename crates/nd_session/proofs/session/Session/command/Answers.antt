use Rattle.nd_session.proofs.ReceiptLemmas.{told, command_may_fail}
use Rattle.nd_session.proofs.session.Session.command.Goals as goal

pub returns-clause-told : goal.returns-clause-told
returns-clause-told g c =
    told c.deref_mut.result.now c.command.new.self c.args.client.now c.args.command c.command.result c.command.ensures.history c.command.ensures.answered

pub returns-clause-fails : goal.returns-clause-fails
returns-clause-fails g c =
    let was = c.deref_mut.result.now in
    command_may_fail was.state.log was.state.machine c.command.ensures.history was.entered c.args.client.now c.command.result c.command.ensures.fails
