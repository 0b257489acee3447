use Rattle.std.proofs.Common.{◌+◌}
use Rattle.nd_view.specs.Rows.{points_by_row}
use Rattle.nd_view.proofs.Starts.{start}
use Rattle.nd_view.proofs.Walks.{IsCounted}
use Rattle.nd_view.proofs.keeping.count_from.Given as goal

-- the count is the number of known precursors, and of those in the rows so far
abbrev pub invariant-loop-r : goal.invariant-loop-r
invariant-loop-r g l = IsCounted l.paths l.counts l.point l.known.below l.positive (start (points_by_row l.positive) l.r) l.count

abbrev pub invariant-loop-k : goal.invariant-loop-k
invariant-loop-k g l = IsCounted l.paths l.counts l.point l.known.below l.positive (start (points_by_row l.positive) l.r + l.k) l.count
