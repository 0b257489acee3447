use Rattle.nd_view.proofs.MinimalTimes.{IsKeptUpTo}
use Rattle.nd_view.proofs.arrivals.minimal.Given as goal

-- the result for the times so far
abbrev pub invariant-loop-time : goal.invariant-loop-time
invariant-loop-time g l = IsKeptUpTo l.order l.times l.time-index l.kept.items
