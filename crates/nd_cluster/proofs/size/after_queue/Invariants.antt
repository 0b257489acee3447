use Rattle.std.proofs.Common.{◌≡◌, ◌+◌, length, take, sum_by}
use Rattle.nd_delta.specs.Delta.{size}
use Rattle.nd_mesh.specs.Mesh.{queue}
use Rattle.nd_cluster.proofs.size.after_queue.Given as goal

abbrev pub invariant-loop-i : goal.invariant-loop-i
invariant-loop-i g l = l.rest + (length (queue l.mesh l.from l.to) + sum_by size (take l.i (queue l.mesh l.from l.to))) ≡ l.fn.left
