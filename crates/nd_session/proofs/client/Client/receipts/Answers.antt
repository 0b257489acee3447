use Rattle.std.proofs.Common.{ap, ◌∙◌}
use Rattle.nd_session.specs.Clients.{ClientValue}
use Rattle.nd_session.proofs.client.Client.receipts.Goals as goal

pub returns-clause-value : goal.returns-clause-value
returns-clause-value g c = c.deref.ensures.value ∙ ap (λ (v : ClientValue g.row.A.Denot). v.receipts) c.self.view_is
