use Rattle.nd_timeline.specs.Walks.{IsOn}
use Rattle.nd_history.specs.Least.{HoldsAt, NoHit}
use Rattle.nd_history.proofs.piece.first_hit.Given as goal

abbrev pub invariant-loop-i : goal.invariant-loop-i
invariant-loop-i g l = record {
  on : IsOn l.timeline l.walk;
  none : NoHit (HoldsAt l.timeline l.condition) l.from l.i;
}
