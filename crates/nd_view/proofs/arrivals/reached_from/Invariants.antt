use Rattle.nd_view.proofs.ReachedTimes.{AreReachedUpTo}
use Rattle.nd_view.proofs.arrivals.reached_from.Given as goal

-- the times of the entries so far
abbrev pub invariant-loop-entry : goal.invariant-loop-entry
invariant-loop-entry g l = AreReachedUpTo l.paths l.entries l.location l.entry-index l.times.items
