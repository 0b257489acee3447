use Rattle.std.proofs.Common.{◌≡◌, ◌++◌, take}
use Rattle.nd_summaries.specs.Row.{left_after}
use Rattle.nd_summaries.proofs.list.push_after.Given as goal

abbrev pub invariant-loop-known : goal.invariant-loop-known
invariant-loop-known g l = l.summaries.items ≡ l.fn.summaries.items ++ left_after l.order l.summary (take l.known-index l.list)
