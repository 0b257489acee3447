use Rattle.nd_summaries.proofs.Acceptance.{closed_fails, fails_alike}
use Rattle.nd_summaries.proofs.laws.closed_walks_fail_alike.Goals as goal

pub returns-clause-closed : goal.returns-clause-closed
returns-clause-closed g c = λ order l arc walk h. closed_fails order c.args.graph.now c.all_arcs.ensures.agree l arc walk h

pub returns-clause-alike : goal.returns-clause-alike
returns-clause-alike g c = λ order other l fails. fails_alike order other c.args.graph.now l c.all_arcs.ensures.agree fails
