use Rattle.std.proofs.Common.{subst}
use Rattle.nd_graph.specs.Graph.{Dataflow}
use Rattle.nd_view.specs.View.{IsPassed}
use Rattle.nd_cluster.proofs.cluster.Cluster.passed.Goals as goal

pub returns-clause-finished : goal.returns-clause-finished
returns-clause-finished g c = λ yes keeps.
    let s = c.args.self.now in
    c.protocol_is_safe.ensures.passed s c.n.ensures.state keeps c.args.q c.requires c.args.point.now
    (subst (λ m. IsPassed s.graph m c.args.point.now) c.view.ensures.map
    (subst (λ (k : Dataflow). IsPassed k c.view.result.now.map c.args.point.now) c.paths.ensures (c.passed.ensures.0 yes)))
