use Rattle.std.proofs.Common.{take}
use Rattle.nd_summaries.specs.Row.{IsCovered}
use Rattle.nd_summaries.proofs.list.SummaryList.covers.Given as goal

-- none of the summaries so far
abbrev pub invariant-loop-known : goal.invariant-loop-known
invariant-loop-known g l = IsCovered l.order (take l.known-index l.known-items) l.summary → ⊥
