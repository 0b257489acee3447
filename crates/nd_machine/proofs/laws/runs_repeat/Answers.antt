use Rattle.nd_machine.proofs.RunLaws.{runs_join, runs_repeat}
use Rattle.nd_machine.proofs.laws.runs_repeat.Goals as goal

pub returns-clause-join : goal.returns-clause-join
returns-clause-join g c = runs_join g.row.A.Denot

pub returns-clause-repeat : goal.returns-clause-repeat
returns-clause-repeat g c = runs_repeat g.row.A.Denot c.candidates_are_in_turn.ensures.first c.candidates_are_in_turn.ensures.idle
