use Rattle.nd_protocol.proofs.InvariantLemmas.{passed, held, last}
use Rattle.nd_protocol.proofs.Notices.{comes_last}
use Rattle.nd_protocol.proofs.Runs.{run_finished}
use Rattle.nd_protocol.proofs.laws.protocol_is_safe.Goals as goal

pub returns-clause-passed : goal.returns-clause-passed
returns-clause-passed g c = λ s state. passed c.order_is_transitive.ensures.strictly c.order_is_transitive.ensures.could s state.ordered

pub returns-clause-held : goal.returns-clause-held
returns-clause-held g c = λ s state. held c.order_is_transitive.ensures.strictly c.order_is_transitive.ensures.could s state.ordered

pub returns-clause-before : goal.returns-clause-before
returns-clause-before g c = λ s state. last c.order_is_transitive.ensures.strictly s state.ordered

pub returns-clause-last : goal.returns-clause-last
returns-clause-last g c = comes_last c.order_is_transitive.ensures.strictly

pub returns-clause-finished : goal.returns-clause-finished
returns-clause-finished g c = run_finished c.order_is_transitive.ensures.strictly c.order_is_transitive.ensures.could
