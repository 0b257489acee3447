use Rattle.nd_view.specs.Kept.{IsReady}
use Rattle.nd_view.proofs.Walks.{IsRightUpTo}
use Rattle.nd_view.proofs.keeping.shift.Given as goal

-- the numbers of the entries so far are right
abbrev pub invariant-loop-r : goal.invariant-loop-r
invariant-loop-r g l = IsRightUpTo l.paths l.counts (IsReady l.paths l.counts l.point l.up) l.fn.precursor_counts l.r 0 l.precursor_counts

abbrev pub invariant-loop-k : goal.invariant-loop-k
invariant-loop-k g l = IsRightUpTo l.paths l.counts (IsReady l.paths l.counts l.point l.up) l.fn.precursor_counts l.r l.k l.precursor_counts

abbrev pub invariant-loop-k-then-leads : goal.invariant-loop-k-then-leads
invariant-loop-k-then-leads g l = IsRightUpTo l.paths l.counts (IsReady l.paths l.counts l.point l.up) l.fn.precursor_counts l.r l.k l.precursor_counts
