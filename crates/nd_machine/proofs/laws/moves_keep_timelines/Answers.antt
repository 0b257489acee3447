use Rattle.nd_machine.proofs.MovesLemmas.{keeps_base, keeps_timelines}
use Rattle.nd_machine.proofs.laws.moves_keep_timelines.Goals as goal

pub returns-clause-base : goal.returns-clause-base
returns-clause-base g c = keeps_base g.row.A.Denot

pub returns-clause-timeline : goal.returns-clause-timeline
returns-clause-timeline g c = keeps_timelines g.row.A.Denot
