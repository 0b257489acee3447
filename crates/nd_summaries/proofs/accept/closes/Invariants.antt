use Rattle.std.proofs.Common.{take}
use Rattle.nd_summaries.specs.Row.{Closes}
use Rattle.nd_summaries.proofs.accept.closes.Given as goal

-- none of the summaries so far
abbrev pub invariant-loop-summary : goal.invariant-loop-summary
invariant-loop-summary g l = Closes (take l.summary-index l.summary-items) l.arc → ⊥
