use Rattle.std.proofs.Common.{subst}
use Rattle.nd_protocol.specs.Fitting.{IsState}
use Rattle.nd_cluster.proofs.cluster.Cluster.n.Goals as goal

pub returns-clause-state : goal.returns-clause-state
returns-clause-state g c = subst IsState c.self.view_is c.self.invariant
