use Rattle.std.proofs.Common.{Option}
use Rattle.nd_protocol.specs.declared.step.Step.{Step}
use Rattle.nd_cluster.specs.Candidates.{candidates_of}
use Rattle.nd_cluster.specs.Choice.{Chooses}
use Rattle.nd_cluster.proofs.cluster.Cluster.first_on.Given as goal

abbrev pub invariant-loop-step : goal.invariant-loop-step
invariant-loop-step g l = (choice : Option (Step g.row.A.Denot)) → Chooses l.self l.step-iterator choice → Chooses l.self (candidates_of l.self l.p) choice
