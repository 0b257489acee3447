use Rattle.nd_cluster.proofs.OrderLemmas.{in_turn, choice_is_first, idle_refused}
use Rattle.nd_cluster.proofs.choice.candidates_are_in_turn.Goals as goal

pub returns-clause-turn : goal.returns-clause-turn
returns-clause-turn g c = in_turn g.row.A.Denot

pub returns-clause-first : goal.returns-clause-first
returns-clause-first g c = choice_is_first g.row.A.Denot

pub returns-clause-idle : goal.returns-clause-idle
returns-clause-idle g c = idle_refused g.row.A.Denot
