use Rattle.std.proofs.Common.{◌+◌, ◌-◌, ◌||◌, pos, length}
use Rattle.nd_delta.specs.Delta.{at, combined}
use Rattle.nd_delta.proofs.Sums.{IsSplit, first_entries}
use Rattle.nd_delta.proofs.Delta.combine.Given as goal

-- the result so far is correct at the points of the entries so far
abbrev pub invariant-loop-i : goal.invariant-loop-i
invariant-loop-i g l = IsSplit (λ q. first_entries l.mine l.i q || first_entries l.others l.j q) (at (combined l.minus l.self l.other)) (λ _. pos 0) l.made

abbrev pub decreases-loop-i : goal.decreases-loop-i
decreases-loop-i g l = (length l.mine - l.i) + (length l.others - l.j)
