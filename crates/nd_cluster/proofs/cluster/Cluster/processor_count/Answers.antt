use Rattle.std.proofs.Common.{◌≤◌, length, subst, arith}
use Rattle.nd_protocol.specs.Fitting.{IsState}
use Rattle.nd_time.specs.Limits.{max_processors}
use Rattle.nd_cluster.proofs.cluster.Cluster.processor_count.Goals as goal

pub overflow_cast-result : goal.overflow_cast-result
overflow_cast-result g c =
    let state : IsState c.args.self.now = subst IsState c.self.view_is c.self.invariant in
    let few : length c.args.self.now.processors ≤ max_processors = state.within.few in
    omega (arith, few, c.n.ensures.value)

pub returns-clause-state : goal.returns-clause-state
returns-clause-state g c = subst IsState c.self.view_is c.self.invariant
