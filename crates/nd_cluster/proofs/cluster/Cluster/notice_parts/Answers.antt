use Rattle.std.proofs.Common.{sym, arith}
use Rattle.nd_cluster.proofs.FreeSteps.{notices_there}
use Rattle.nd_cluster.proofs.cluster.Cluster.notice_parts.Goals as goal

pub notice_changes-requires : goal.notice_changes-requires
notice_changes-requires g c =
    let lt = notices_there c.args.self.now c.args.p c.args.point.now c.in_ok-effect.ensures.free in
    omega (arith, lt, c.processor_count-n.ensures.value)

pub returns-clause-reaches : goal.returns-clause-reaches
returns-clause-reaches g c =
    c.in-Ok.ensures c.args.self.now (record { graph = sym c.graph-graph.ensures; count = sym c.processor_count-n.ensures.value }) c.in_ok-effect.ensures.does c.processor_count-n.ensures.state c.in_ok-effect.ensures.free
