use Rattle.std.proofs.Common.{arith}
use Rattle.nd_cluster.proofs.FreeSteps.{takes_there}
use Rattle.nd_cluster.proofs.cluster.Cluster.take_parts.Goals as goal

pub take_flow-requires : goal.take_flow-requires
take_flow-requires g c =
    let lt = takes_there c.args.self.now c.args.p c.args.key.now c.in_ok-effect.ensures.free in
    omega (arith, lt, c.processor_count-n.ensures.value)

pub take_changes-requires : goal.take_changes-requires
take_changes-requires g c =
    let lt = takes_there c.args.self.now c.args.p c.args.key.now c.in_ok-effect.ensures.free in
    omega (arith, lt, c.processor_count-n.ensures.value)
