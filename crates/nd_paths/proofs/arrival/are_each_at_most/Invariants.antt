use Rattle.std.proofs.Common.{◌↔◌, drop}
use Rattle.nd_time.specs.Order.{IsEachAtMost}
use Rattle.nd_paths.proofs.arrival.are_each_at_most.Given as goal

-- the numbers so far are at most the others, so that the rest decides
abbrev pub invariant-loop-place : goal.invariant-loop-place
invariant-loop-place l = IsEachAtMost (drop l.place l.own) (drop l.place l.theirs) ↔ IsEachAtMost l.own l.theirs
