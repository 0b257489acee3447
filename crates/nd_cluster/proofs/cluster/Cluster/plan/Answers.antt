use Rattle.nd_cluster.proofs.Exchanges.{comes_last}
use Rattle.nd_cluster.proofs.cluster.Cluster.plan.Goals as goal

pub returns-clause-last : goal.returns-clause-last
returns-clause-last g c =
    comes_last c.protocol_is_safe.ensures.last c.args.self.now c.args.step.now c.processor_count.ensures.state c.in_ok-changes.ensures.ok.enabled
