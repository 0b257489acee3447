use Rattle.nd_session.specs.Close.{AreInBelow}
use Rattle.nd_session.proofs.close.first_missing.Given as goal

abbrev pub invariant-loop-n : goal.invariant-loop-n
invariant-loop-n g l = AreInBelow l.clients l.n
