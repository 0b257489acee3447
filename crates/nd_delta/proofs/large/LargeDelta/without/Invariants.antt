use Rattle.nd_delta.specs.Delta.{minus}
use Rattle.nd_delta.proofs.Sums.{IsMade}
use Rattle.nd_delta.proofs.large.LargeDelta.without.Given as goal

abbrev pub invariant-loop-point : goal.invariant-loop-point
invariant-loop-point g l = IsMade l.self (minus l.self l.part) l.point-iterator l.made
