use Rattle.std.proofs.Common.{◌≡◌, take}
use Rattle.nd_steps.proofs.record.copied.Given as goal

abbrev pub invariant-loop-i : goal.invariant-loop-i
invariant-loop-i g l = l.list.items ≡ take l.i l.changes
