use Rattle.nd_steps.proofs.TurnsLemmas.{IsPutInOrder}
use Rattle.nd_steps.proofs.order.put_in_order.Given as goal

-- the first changes are in order
abbrev pub invariant-loop-i : goal.invariant-loop-i
invariant-loop-i g l = IsPutInOrder l.processors l.fn.changes l.changes l.turn l.i l.counts_stay l.entries_stay
