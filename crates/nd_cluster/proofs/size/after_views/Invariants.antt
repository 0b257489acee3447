use Rattle.std.proofs.Common.{◌≡◌, ◌+◌, take, sum_by}
use Rattle.nd_delta.specs.Delta.{size}
use Rattle.nd_view.specs.Kept.{Kept}
use Rattle.nd_cluster.proofs.size.after_views.Given as goal

abbrev pub invariant-loop-view : goal.invariant-loop-view
invariant-loop-view g l = l.left + sum_by (λ (v : Kept). size v.map) (take l.view-index l.views) ≡ l.fn.left
