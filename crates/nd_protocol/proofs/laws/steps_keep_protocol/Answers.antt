use Rattle.nd_protocol.proofs.EnabledLemmas.{state_kept}
use Rattle.nd_protocol.proofs.Runs.{step_settled, step_kept, run_kept}
use Rattle.nd_protocol.proofs.laws.steps_keep_protocol.Goals as goal

pub returns-clause-state : goal.returns-clause-state
returns-clause-state g c = state_kept c.order_is_transitive.ensures.strictly

pub returns-clause-settled : goal.returns-clause-settled
returns-clause-settled g c = step_settled c.order_is_transitive.ensures.strictly

pub returns-clause-protocol : goal.returns-clause-protocol
returns-clause-protocol g c = step_kept c.order_is_transitive.ensures.strictly

pub returns-clause-run : goal.returns-clause-run
returns-clause-run g c = run_kept c.order_is_transitive.ensures.strictly
