use Rattle.std.proofs.Common.{sym}
use Rattle.nd_cluster.proofs.FreeSteps.{releases_there}
use Rattle.nd_cluster.proofs.cluster.Cluster.release_parts.Goals as goal

pub release_asks-asks-requires-clause-here : goal.release_asks-asks-requires-clause-here
release_asks-asks-requires-clause-here g c = releases_there c.args.self.now c.args.p c.args.vertex c.args.times.now c.in_ok-release_kept.ensures.free

pub returns-clause-reaches : goal.returns-clause-reaches
returns-clause-reaches g c =
    c.in-Ok.ensures c.args.self.now (record { graph = sym c.graph-graph.ensures; count = sym c.processor_count-n.ensures.value }) c.release_asks-asks.ensures c.processor_count-n.ensures.state c.in_ok-release_kept.ensures.free
