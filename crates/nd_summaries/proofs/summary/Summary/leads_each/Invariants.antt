use Rattle.std.proofs.Common.{◌≡◌, drop}
use Rattle.nd_summaries.specs.Summary.{applied}
use Rattle.nd_summaries.specs.Steps.{each_at_most}
use Rattle.nd_summaries.proofs.summary.Summary.leads_each.Given as goal

-- the numbers so far are at most the others, so that the rest decides
abbrev pub invariant-loop-place : goal.invariant-loop-place
invariant-loop-place l = each_at_most (drop l.place (applied l.self l.from)) (drop l.place l.to) ≡ each_at_most (applied l.self l.from) l.to
