use Rattle.nd_view.specs.Rows.{joined}
use Rattle.nd_view.proofs.Anew.{IsPickedUpTo}
use Rattle.nd_view.proofs.keeping.positive_points.Given as goal

-- the positive points that are not among the entries left have a number
abbrev pub invariant-loop-point : goal.invariant-loop-point
invariant-loop-point g l = IsPickedUpTo l.counts l.point-iterator (joined l.positive)
