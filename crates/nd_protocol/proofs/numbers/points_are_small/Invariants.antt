use Rattle.std.proofs.Common.{ℕ, ◌<◌, get_or}
use Rattle.nd_paths.specs.declared.point.Pointstamp.{Pointstamp}
use Rattle.nd_protocol.specs.Ranges.{TimeIsSmall}
use Rattle.nd_protocol.proofs.numbers.points_are_small.Given as goal

abbrev pub invariant-loop-point : goal.invariant-loop-point
invariant-loop-point l = (k : ℕ) (d : Pointstamp) → k < l.point-index → TimeIsSmall (get_or l.points k d).time
