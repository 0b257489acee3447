use Rattle.std.proofs.Common.{◌≡◌}
use Rattle.nd_protocol.specs.State.{processor, queue}
use Rattle.nd_why.specs.Why.{in_turn, unheard_from}
use Rattle.nd_why.proofs.news.unheard_at.Given as goal

abbrev pub invariant-loop-p : goal.invariant-loop-p
invariant-loop-p g l = l.unheard.items ≡ in_turn l.p (λ p. unheard_from p (processor l.parts p).unsent (queue l.parts p l.q) l.point)
