use Rattle.std.proofs.Common.{◌≡◌}
use Rattle.nd_view.specs.Rows.{points_by_row}
use Rattle.nd_view.proofs.Starts.{start}
use Rattle.nd_view.proofs.precursor_counts.count_entries.Given as goal

-- the number of entries in the rows so far
abbrev pub invariant-loop-r : goal.invariant-loop-r
invariant-loop-r g l = l.count ≡ start (points_by_row l.counts) l.r
