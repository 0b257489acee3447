use Rattle.std.proofs.Common.{take}
use Rattle.nd_summaries.specs.Row.{ShowsFail}
use Rattle.nd_summaries.proofs.accept.shows_fail.Given as goal

-- none of the arcs so far
abbrev pub invariant-loop-arc : goal.invariant-loop-arc
invariant-loop-arc g l = ShowsFail (take l.arc-index l.arc-items) l.location l.row → ⊥
