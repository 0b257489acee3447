use Rattle.std.proofs.Common.{arith}
use Rattle.nd_reach.proofs.Exact.{exact}
use Rattle.nd_reach.proofs.search.reach.Goals as goal

pub returns-clause-exact : goal.returns-clause-exact
returns-clause-exact g c =
    exact c.args.allowed c.args.when.now c.args.cluster.now c.args.limit (omega (arith, c.if-limit-eq0.false)) c.in_ok-reached.reached c.in_ok-reached.ensures.reached
