use Rattle.nd_steps.proofs.CountsLemmas.{sent_changed, received_changed}
use Rattle.nd_steps.proofs.counts.changes_are_counted.Goals as goal

pub returns-clause-sent : goal.returns-clause-sent
returns-clause-sent g = sent_changed

pub returns-clause-received : goal.returns-clause-received
returns-clause-received g = received_changed
