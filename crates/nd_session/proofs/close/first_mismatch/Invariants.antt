use Rattle.nd_session.specs.Close.{AreRightBelow}
use Rattle.nd_session.proofs.close.first_mismatch.Given as goal

abbrev pub invariant-loop-k : goal.invariant-loop-k
invariant-loop-k g l = AreRightBelow l.log l.clients l.k
