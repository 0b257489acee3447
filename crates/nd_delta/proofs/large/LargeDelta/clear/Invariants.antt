use Rattle.std.proofs.Common.{pos}
use Rattle.nd_delta.specs.Delta.{at}
use Rattle.nd_delta.proofs.Sums.{IsSplit, first_entries}
use Rattle.nd_delta.proofs.large.LargeDelta.clear.Given as goal

-- there are no entries at the points of the entries so far
abbrev pub invariant-loop-entry : goal.invariant-loop-entry
invariant-loop-entry g l = IsSplit (first_entries l.entries l.entry-index) (λ _. pos 0) (at l.fn.self) l.self
