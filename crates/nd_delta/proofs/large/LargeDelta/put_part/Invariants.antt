use Rattle.nd_delta.specs.Delta.{at}
use Rattle.nd_delta.proofs.Sums.{IsSplit, first_entries}
use Rattle.nd_delta.proofs.large.LargeDelta.put_part.Given as goal

-- the entries so far were added
abbrev pub invariant-loop-i : goal.invariant-loop-i
invariant-loop-i g l = IsSplit (first_entries l.entries l.i) (at l.part) (at l.fn.self) l.self
