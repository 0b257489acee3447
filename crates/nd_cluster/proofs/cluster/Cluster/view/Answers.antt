use Rattle.std.proofs.Common.{◌<◌, length, sym, subst}
use Rattle.nd_protocol.specs.State.{ClusterState}
use Rattle.nd_cluster.proofs.cluster.Cluster.view.Goals as goal

pub view-requires : goal.view-requires
view-requires g c =
    subst (λ n. c.args.q < n) (sym c.self.invariant.fits.each_view)
    (subst (λ (s : ClusterState). c.args.q < length s.processors) (sym c.self.view_is) c.requires)
