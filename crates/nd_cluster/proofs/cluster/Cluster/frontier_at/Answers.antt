use Rattle.std.proofs.Common.{subst}
use Rattle.nd_view.specs.Arrivals.{AreExact}
use Rattle.nd_protocol.specs.State.{view}
use Rattle.nd_cluster.proofs.cluster.Cluster.frontier_at.Goals as goal

pub returns-clause-exact : goal.returns-clause-exact
returns-clause-exact g c =
    subst (λ h. AreExact h (view c.args.self.now c.args.q) c.args.location c.in-Ok.times.items) c.paths.ensures
    (subst (λ v. AreExact c.paths.result.now v c.args.location c.in-Ok.times.items) c.view.ensures.map c.in-Ok.ensures.exact)
