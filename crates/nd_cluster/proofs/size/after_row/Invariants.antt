use Rattle.std.proofs.Common.{◌≡◌, ◌+◌, length, take, sum_by}
use Rattle.nd_mesh.specs.Mesh.{row}
use Rattle.nd_cluster.specs.Size.{queue_size}
use Rattle.nd_cluster.proofs.size.after_row.Given as goal

abbrev pub invariant-loop-to : goal.invariant-loop-to
invariant-loop-to g l = l.rest + (length (row l.mesh l.from) + sum_by queue_size (take l.to (row l.mesh l.from))) ≡ l.fn.left
