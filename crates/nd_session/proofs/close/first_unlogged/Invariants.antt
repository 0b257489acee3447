use Rattle.nd_session.specs.Tested.{AreInPlaceBelow}
use Rattle.nd_session.proofs.close.first_unlogged.Given as goal

abbrev pub invariant-loop-i : goal.invariant-loop-i
invariant-loop-i g l = AreInPlaceBelow l.log l.clients l.i
