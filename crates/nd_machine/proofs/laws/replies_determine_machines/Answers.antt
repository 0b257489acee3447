use Rattle.nd_machine.proofs.RunLemmas.{one_choice}
use Rattle.nd_machine.proofs.RepliesLemmas.{replies_determine}
use Rattle.nd_machine.proofs.laws.replies_determine_machines.Goals as goal

pub returns-clause-choice : goal.returns-clause-choice
returns-clause-choice g c = one_choice {A = g.row.A.Denot}

pub returns-clause-machine : goal.returns-clause-machine
returns-clause-machine g c = replies_determine g.row.A.Denot c.candidates_are_in_turn.ensures.first
