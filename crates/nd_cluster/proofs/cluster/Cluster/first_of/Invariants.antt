use Rattle.std.proofs.Common.{drop, Option}
use Rattle.nd_protocol.specs.declared.step.Step.{Step}
use Rattle.nd_cluster.specs.Choice.{Chooses}
use Rattle.nd_cluster.proofs.cluster.Cluster.first_of.Given as goal

abbrev pub invariant-loop-step : goal.invariant-loop-step
invariant-loop-step g l = (choice : Option (Step g.row.A.Denot)) → Chooses l.self (drop l.step-index l.steps) choice → Chooses l.self l.steps choice
