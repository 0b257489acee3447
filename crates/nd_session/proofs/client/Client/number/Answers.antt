use Rattle.std.proofs.Common.{ap}
use Rattle.nd_session.specs.Clients.{ClientValue}
use Rattle.nd_session.proofs.client.Client.number.Goals as goal

pub returns : goal.returns
returns g c = ap (λ (v : ClientValue g.row.A.Denot). v.number) c.self.view_is
