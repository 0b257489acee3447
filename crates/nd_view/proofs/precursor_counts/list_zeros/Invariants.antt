use Rattle.std.proofs.Common.{◌≤◌, ◌+◌, length, vec_len, vec_capacity}
use Rattle.nd_view.specs.Rows.{joined, points_by_row}
use Rattle.nd_view.proofs.FrontierLists.{IsListedUpTo}
use Rattle.nd_view.proofs.Starts.{start}
use Rattle.nd_view.proofs.precursor_counts.list_zeros.Given as goal

-- the points so far whose count is 0
abbrev pub invariant-loop-r : goal.invariant-loop-r
invariant-loop-r g l = record {
  enough : length (joined l.counts) ≤ vec_capacity l.frontier;
  few : vec_len l.frontier ≤ start (points_by_row l.counts) l.r;
  listed : IsListedUpTo (joined l.counts) (start (points_by_row l.counts) l.r) l.frontier.items;
}

abbrev pub invariant-loop-entry : goal.invariant-loop-entry
invariant-loop-entry g l = record {
  enough : length (joined l.counts) ≤ vec_capacity l.frontier;
  few : vec_len l.frontier ≤ start (points_by_row l.counts) l.r + l.entry-index;
  listed : IsListedUpTo (joined l.counts) (start (points_by_row l.counts) l.r + l.entry-index) l.frontier.items;
}
