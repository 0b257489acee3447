use Rattle.std.proofs.Common.{◌⊎◌, ◌∙◌, subst}
use Rattle.nd_graph.specs.Graph.{Dataflow}
use Rattle.nd_paths.specs.declared.point.Pointstamp.{Pointstamp}
use Rattle.nd_paths.specs.Order.{CouldResultIn}
use Rattle.nd_paths.proofs.PointOrder.{could_antisym, could_from_leads, could_or_not, strictly_or_not}
use Rattle.nd_paths.proofs.paths.Paths.order_is_decided.Goals as goal

pub returns : goal.returns
returns g c =
    let graph : Dataflow = c.args.self.now in
    let decided = subst (λ (v : Dataflow). (s t : Pointstamp) → CouldResultIn v s t ⊎ (CouldResultIn v s t → ⊥)) (c.deref.ensures ∙ c.self.view_is) (could_or_not c.deref.result.now c.order_is_decided.ensures) in
    strictly_or_not graph
    (λ s f. could_from_leads graph s s (c.times_are_ordered.ensures.reflexive graph.order graph s.location s.time f.depth))
    (could_antisym graph (λ k l s t. c.times_are_ordered.ensures.antisymmetric graph.order graph k l s t c.graph.ensures.accepted))
    decided
