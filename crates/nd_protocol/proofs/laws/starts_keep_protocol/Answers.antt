use Rattle.nd_protocol.proofs.Starts.{start_keeps, start_is_state}
use Rattle.nd_protocol.proofs.laws.starts_keep_protocol.Goals as goal

pub returns-clause-state : goal.returns-clause-state
returns-clause-state c = λ g n sound o some few. start_is_state g o sound n some few

pub returns-clause-protocol : goal.returns-clause-protocol
returns-clause-protocol c = λ g n o. start_keeps c.order_is_transitive.ensures.strictly g o n
