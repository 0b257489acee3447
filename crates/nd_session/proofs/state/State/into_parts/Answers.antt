use Rattle.std.proofs.Common.{subst}
use Rattle.nd_session.specs.State.{StateValue}
use Rattle.nd_session.specs.Clients.{IsHistory}
use Rattle.nd_session.proofs.state.State.into_parts.Goals as goal

pub returns-clause-history : goal.returns-clause-history
returns-clause-history g c =
    let P : StateValue g.row.A.Denot → Type 0 = λ s. IsHistory s.log s.machine in
    subst P c.self.view_is (record { start = c.self.invariant.start; state = c.self.invariant.state; protocol = c.self.invariant.protocol; legal = c.self.invariant.legal; few = c.self.invariant.few })
