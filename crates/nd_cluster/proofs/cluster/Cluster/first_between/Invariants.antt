use Rattle.std.proofs.Common.{◌-◌, Option}
use Rattle.std.specs.Prelude.{option_copied}
use Rattle.std.specs.List.{range_with_len}
use Rattle.nd_protocol.specs.declared.step.Step.{Step}
use Rattle.nd_cluster.specs.Candidates.{candidates_on}
use Rattle.nd_cluster.specs.Choice.{Chooses}
use Rattle.nd_cluster.proofs.cluster.Cluster.first_between.Given as goal

abbrev pub invariant-loop-p : goal.invariant-loop-p
invariant-loop-p g l = (choice : Option (Step g.row.A.Denot)) → Chooses l.self (candidates_on l.self (option_copied l.only) (range_with_len l.p (l.hi - l.p))) choice
    → Chooses l.self (candidates_on l.self (option_copied l.only) (range_with_len l.lo (l.hi - l.lo))) choice
