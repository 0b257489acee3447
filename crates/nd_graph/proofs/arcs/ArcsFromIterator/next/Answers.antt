use Rattle.std.proofs.Common.{rules}
use Rattle.nd_graph.proofs.arcs.ArcsFromIterator.next.Goals as goal

pub returns-then-first-self-clause-steps : goal.returns-then-first-self-clause-steps
returns-then-first-self-clause-steps c = search rules

pub returns-then-first-self-clause-goes : goal.returns-then-first-self-clause-goes
returns-then-first-self-clause-goes c = search rules

pub rest-preserved : goal.rest-preserved
rest-preserved c = search rules
