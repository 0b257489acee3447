use Rattle.nd_summaries.proofs.Times.{leads_refl, leads_trans, leads_antisym}
use Rattle.nd_summaries.proofs.laws.times_are_ordered.Goals as goal

pub returns-clause-reflexive : goal.returns-clause-reflexive
returns-clause-reflexive c = leads_refl

pub returns-clause-transitive : goal.returns-clause-transitive
returns-clause-transitive c = leads_trans

pub returns-clause-antisymmetric : goal.returns-clause-antisymmetric
returns-clause-antisymmetric c = leads_antisym
