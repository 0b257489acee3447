use Rattle.std.proofs.Common.{◌≡◌, take}
use Rattle.nd_summaries.specs.Row.{listed_before}
use Rattle.nd_summaries.proofs.list.before.Given as goal

abbrev pub invariant-loop-known : goal.invariant-loop-known
invariant-loop-known g l = l.summaries.items ≡ listed_before l.summary (take l.known-index l.list)
