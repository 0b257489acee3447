use Rattle.nd_breaks.specs.Breaks.{NoHitBelow}
use Rattle.nd_breaks.proofs.breaks.Breaks.first_hit.Given as goal

abbrev pub invariant-loop-id : goal.invariant-loop-id
invariant-loop-id g l = NoHitBelow l.self l.cluster l.id
