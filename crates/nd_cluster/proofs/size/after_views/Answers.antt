use Rattle.std.proofs.Common.{ap, arith}
use Rattle.nd_delta.specs.Delta.{size}
use Rattle.nd_view.specs.Kept.{Kept}
use Rattle.nd_cluster.proofs.Sizes.{none_left, sum_within}
use Rattle.nd_cluster.proofs.size.after_views.Goals as goal

pub returns-in_err-left : goal.returns-in_err-left
returns-in_err-left g c =
    let all = sum_within (λ (v : Kept). size v.map) c.args.views.now c.loop-view.view-index c.view-item.result c.loop-view-test.true c.view-item.is in
    none_left _ _ _ c.from_residual.ensures (omega (arith, c.loop-view.invariant, c.in_err-left.ensures, all, c.len.ensures, ap size c.counts.ensures))
