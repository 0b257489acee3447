use Rattle.std.proofs.Common.{pos}
use Rattle.nd_delta.specs.Delta.{at}
use Rattle.nd_delta.proofs.Sums.{IsSplit, first_points}
use Rattle.nd_delta.proofs.change.part_of.Given as goal

-- the result so far has the entries at the points so far
abbrev pub invariant-loop-point : goal.invariant-loop-point
invariant-loop-point g l = IsSplit (first_points l.points l.point-index) (at (g.C.Change.change l.change)) (λ _. pos 0) l.kept
