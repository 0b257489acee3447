use Rattle.nd_session.specs.Close.{HeldBelow}
use Rattle.nd_session.proofs.close.first_wrong.Given as goal

abbrev pub invariant-loop-j : goal.invariant-loop-j
invariant-loop-j g l = HeldBelow l.log l.receipts l.j
