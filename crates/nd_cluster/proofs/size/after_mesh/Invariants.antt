use Rattle.std.proofs.Common.{◌≡◌, ◌+◌, length, take, sum_by}
use Rattle.nd_cluster.specs.Size.{queue_size}
use Rattle.nd_cluster.proofs.size.after_mesh.Given as goal

abbrev pub invariant-loop-from : goal.invariant-loop-from
invariant-loop-from g l = l.left + sum_by (λ row. length row + sum_by queue_size row) (take l.from l.mesh) ≡ l.fn.left
