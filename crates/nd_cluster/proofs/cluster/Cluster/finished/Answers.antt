use Rattle.std.proofs.Common.{IsTrue, ◌↔◌, subst}
use Rattle.nd_protocol.specs.State.{ClusterState}
use Rattle.nd_why.specs.Why.{IsFinishedBefore}
use Rattle.nd_cluster.proofs.cluster.Cluster.finished.Goals as goal

pub returns : goal.returns
returns g c = subst (λ (s : ClusterState). IsTrue c.finished.result ↔ IsFinishedBefore s c.args.extent c.args.point.now) c.self.view_is c.finished.ensures
