use Rattle.std.proofs.Common.{sym}
use Rattle.nd_cluster.proofs.cluster.Cluster.post_parts.Goals as goal

pub returns-clause-reaches : goal.returns-clause-reaches
returns-clause-reaches g c =
    c.in-Ok.ensures c.args.self.now (record { graph = sym c.graph-graph.ensures; count = sym c.processor_count-n.ensures.value }) c.processor_count-n.ensures.state c.in_ok-post_held.ensures.free
