use Rattle.std.proofs.Common.{sym}
use Rattle.nd_cluster.proofs.FreeSteps.{epoch_goes}
use Rattle.nd_cluster.proofs.cluster.Cluster.feed_parts.Goals as goal

pub feed_changes-requires-clause-goes : goal.feed_changes-requires-clause-goes
feed_changes-requires-clause-goes g c = epoch_goes c.args.self.now c.args.p c.args.vertex c.args.values.now c.args.next c.in_ok-epoch.ensures.free c.in_ok-epoch.epoch c.in_ok-epoch.ensures.epoch

pub returns-clause-reaches : goal.returns-clause-reaches
returns-clause-reaches g c =
    c.in-Ok.ensures c.args.self.now (record { graph = sym c.graph-graph.ensures; count = sym c.processor_count-n.ensures.value }) c.in_ok-epoch.ensures.epoch c.processor_count-n.ensures.state c.in_ok-epoch.ensures.free
