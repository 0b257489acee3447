use Rattle.nd_protocol.proofs.SendLaws.{send_is_exact, sent_is_later, sent_is_not_passed}
use Rattle.nd_protocol.proofs.laws.sends_are_later.Goals as goal

pub returns-clause-later : goal.returns-clause-later
returns-clause-later g c = λ s p vertex batch. sent_is_later s p vertex batch

pub returns-clause-not_passed : goal.returns-clause-not_passed
returns-clause-not_passed g c = λ s p q vertex batch. sent_is_not_passed s p vertex batch c.order_is_transitive.ensures.strictly c.order_is_transitive.ensures.could q

pub returns-clause-exact : goal.returns-clause-exact
returns-clause-exact g c = λ s p vertex batch. send_is_exact s p vertex batch
