use Rattle.nd_delta.specs.Delta.{at, combined}
use Rattle.nd_delta.proofs.Sums.{IsSplit, first_entries}
use Rattle.nd_delta.proofs.large.LargeDelta.combine.Given as goal

-- the result so far is correct at the points of the entries so far, and a copy elsewhere
abbrev pub invariant-loop-entry : goal.invariant-loop-entry
invariant-loop-entry g l = IsSplit (first_entries l.entry-items l.entry-index) (at (combined l.minus l.self l.other)) (at l.self) l.made
