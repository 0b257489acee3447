use Rattle.std.proofs.Common.{◌≡◌, ◌<◌, ℕ, pos, get_or}
use Rattle.nd_paths.specs.declared.point.Pointstamp.{Pointstamp}
use Rattle.nd_delta.specs.Delta.{at}
use Rattle.nd_steps.proofs.broadcast.lacks_all.Given as goal

-- none of the points so far has an entry
abbrev pub invariant-loop-point : goal.invariant-loop-point
invariant-loop-point g l = (k : ℕ) → k < l.point-index → (d : Pointstamp) → at l.change (get_or l.points k d) ≡ pos 0
