use Rattle.std.proofs.Common.{◌≡◌, ◌+◌, length}
use Rattle.nd_cluster.proofs.size.after_map.Given as goal

abbrev pub invariant-loop-one : goal.invariant-loop-one
invariant-loop-one g l = l.left + length l.fn.entries ≡ l.fn.left + length l._one-iterator
