use Rattle.std.proofs.Common.{◌≡◌, ◌+◌, length, take, sum_by}
use Rattle.nd_map.specs.Counts.{entries}
use Rattle.nd_cluster.proofs.size.after_items.Given as goal

abbrev pub invariant-loop-vertex : goal.invariant-loop-vertex
invariant-loop-vertex g l = l.left + sum_by (λ m. length (entries m)) (take l.vertex l.processor.items) ≡ l.fn.left
