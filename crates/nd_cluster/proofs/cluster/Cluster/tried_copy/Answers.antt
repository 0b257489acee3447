use Rattle.std.proofs.Common.{subst}
use Rattle.std.specs.Prelude.{IfOk}
use Rattle.nd_protocol.specs.declared.step.Step.{Step}
use Rattle.nd_cluster.specs.Choice.{Tries}
use Rattle.nd_cluster.proofs.cluster.Cluster.tried_copy.Goals as goal

pub returns : goal.returns
returns g c = subst (λ (x : Step g.row.A.Denot). IfOk c.tried.result (Tries c.args.self.now x)) c.in-Ok.ensures c.tried.ensures
