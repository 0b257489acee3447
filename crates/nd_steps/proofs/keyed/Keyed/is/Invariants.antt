use Rattle.std.proofs.Common.{◌≡◌, take}
use Rattle.nd_steps.proofs.keyed.Keyed.is.Given as goal

-- the changes so far are equal
abbrev pub invariant-loop-i : goal.invariant-loop-i
invariant-loop-i l = take l.i l.self ≡ take l.i l.changes
