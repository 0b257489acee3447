use Rattle.std.proofs.Common.{◌≡◌, take}
use Rattle.nd_summaries.proofs.list.SummaryList.copy.Given as goal

abbrev pub invariant-loop-summary : goal.invariant-loop-summary
invariant-loop-summary g l = l.summaries.items ≡ take l.summary-index l.summary-items
