use Rattle.std.proofs.Common.{◌≡◌, ◌++◌, take}
use Rattle.nd_summaries.proofs.summary.Summary.reached.Given as goal

-- the constants so far
abbrev pub invariant-loop-constant : goal.invariant-loop-constant
invariant-loop-constant l = l.all.items ≡ l.initial.all.items ++ take l.constant-index l.constant-items
