use Rattle.std.proofs.Common.{◌≡◌, take}
use Rattle.nd_protocol.proofs.part.Points.copy.Given as goal

abbrev pub invariant-loop-point : goal.invariant-loop-point
invariant-loop-point g l = l.items.items ≡ take l.point-index l.point-items
