use Rattle.std.proofs.Common.{◌≡◌, take}
use Rattle.nd_summaries.proofs.summary.raised.Given as goal

-- the outer counters so far
abbrev pub invariant-loop-counter : goal.invariant-loop-counter
invariant-loop-counter l = l.all.items ≡ take l.counter-index l.outer
