use Rattle.nd_graph.specs.Graph.{Dataflow}
use Rattle.nd_paths.proofs.PointOrder.{could_trans, could_antisym, could_from_leads, strictly_trans}
use Rattle.nd_paths.proofs.Minimal.{minimal_point}
use Rattle.nd_paths.proofs.paths.Paths.order_is_partial.Goals as goal

pub returns-clause-reflexive : goal.returns-clause-reflexive
returns-clause-reflexive g c = λ s f.
    let graph : Dataflow = c.args.self.now in
    could_from_leads graph s s (c.times_are_ordered.ensures.reflexive graph.order graph s.location s.time f.depth)

pub returns-clause-transitive : goal.returns-clause-transitive
returns-clause-transitive g c =
    let graph : Dataflow = c.args.self.now in
    could_trans graph (c.times_are_ordered.ensures.transitive graph.order graph)

pub returns-clause-antisymmetric : goal.returns-clause-antisymmetric
returns-clause-antisymmetric g c =
    let graph : Dataflow = c.args.self.now in
    could_antisym graph (λ k l s t. c.times_are_ordered.ensures.antisymmetric graph.order graph k l s t c.graph.ensures.accepted)

pub returns-clause-strict : goal.returns-clause-strict
returns-clause-strict g c =
    let graph : Dataflow = c.args.self.now in
    strictly_trans graph (could_trans graph (c.times_are_ordered.ensures.transitive graph.order graph))
    (could_antisym graph (λ k l s t. c.times_are_ordered.ensures.antisymmetric graph.order graph k l s t c.graph.ensures.accepted))

pub returns-clause-minimal : goal.returns-clause-minimal
returns-clause-minimal g c =
    let graph : Dataflow = c.args.self.now in
    minimal_point graph c.order_is_decided.ensures
    (strictly_trans graph (could_trans graph (c.times_are_ordered.ensures.transitive graph.order graph))
    (could_antisym graph (λ k l s t. c.times_are_ordered.ensures.antisymmetric graph.order graph k l s t c.graph.ensures.accepted)))
