use Rattle.std.proofs.Common.{◌≡◌, drop}
use Rattle.nd_summaries.specs.Steps.{each_at_most}
use Rattle.nd_summaries.proofs.summary.are_each_at_most.Given as goal

-- the numbers so far are at most the others, so that the rest decides
abbrev pub invariant-loop-place : goal.invariant-loop-place
invariant-loop-place l = each_at_most (drop l.place l.own) (drop l.place l.theirs) ≡ each_at_most l.own l.theirs
