use Rattle.std.proofs.Common.{arith}
use Rattle.nd_cluster.specs.Size.{processor_size}
use Rattle.nd_cluster.proofs.Sizes.{none_left, sum_within}
use Rattle.nd_cluster.proofs.size.after_processors.Goals as goal

pub returns-in_err-left : goal.returns-in_err-left
returns-in_err-left g c =
    let all = sum_within processor_size c.args.processors.now c.loop-processor.processor-index c.processor-item.result c.loop-processor-test.true c.processor-item.is in
    none_left _ _ _ c.from_residual.ensures (omega (arith, c.loop-processor.invariant, c.in_err-left.ensures, all))
