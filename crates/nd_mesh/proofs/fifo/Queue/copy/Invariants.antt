use Rattle.std.proofs.Common.{◌≡◌, take}
use Rattle.nd_mesh.proofs.fifo.Queue.copy.Given as goal

abbrev pub invariant-loop-i : goal.invariant-loop-i
invariant-loop-i g l = l.changes.items ≡ take l.i l.self-inside.changes.items
