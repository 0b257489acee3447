use Rattle.std.proofs.Common.{◌≡◌, take}
use Rattle.nd_breaks.proofs.condition.are_same.Given as goal

abbrev pub invariant-loop-k : goal.invariant-loop-k
invariant-loop-k l = take l.k l.these ≡ take l.k l.those
