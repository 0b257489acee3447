use Rattle.std.proofs.Common.{◌≡◌, take}
use Rattle.nd_summaries.proofs.shared.are_equal.Given as goal

-- the summaries so far are equal
abbrev pub invariant-loop-place : goal.invariant-loop-place
invariant-loop-place l = take l.place l.own ≡ take l.place l.other
