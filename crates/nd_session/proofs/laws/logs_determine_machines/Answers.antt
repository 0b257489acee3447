use Rattle.nd_session.proofs.LogLemmas.{logs_determine}
use Rattle.nd_session.proofs.laws.logs_determine_machines.Goals as goal

pub returns : goal.returns
returns g c = logs_determine c.replies_determine_machines.ensures.machine
