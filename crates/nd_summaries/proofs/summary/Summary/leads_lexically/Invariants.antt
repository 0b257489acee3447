use Rattle.std.proofs.Common.{◌≡◌, drop}
use Rattle.std.specs.Ordering.{nat_cmp}
use Rattle.std.specs.Cmp.Lexicographic.{slice_cmp}
use Rattle.nd_summaries.specs.Summary.{applied}
use Rattle.nd_summaries.proofs.summary.Summary.leads_lexically.Given as goal

-- the numbers so far are equal, so that the rest decides
abbrev pub invariant-loop-place : goal.invariant-loop-place
invariant-loop-place l = slice_cmp nat_cmp (drop l.place (applied l.self l.from)) (drop l.place l.to) ≡ slice_cmp nat_cmp (applied l.self l.from) l.to
