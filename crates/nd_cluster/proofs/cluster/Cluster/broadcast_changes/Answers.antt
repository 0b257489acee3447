use Rattle.std.proofs.Common.{◌≡◌, ◌∙◌, sym, ap, subst, arith}
use Rattle.nd_graph.specs.Graph.{Dataflow}
use Rattle.nd_processor.specs.State.{ProcessorState}
use Rattle.nd_delta.specs.Delta.{IsPartOf}
use Rattle.nd_mesh.specs.Mesh.{row, HasQueue, IsFull}
use Rattle.nd_protocol.specs.State.{processor}
use Rattle.nd_protocol.specs.Steps.{chosen}
use Rattle.nd_steps.specs.Refusals.{LeavesUpright}
use Rattle.nd_cluster.proofs.Exchanges.{broadcast_plans}
use Rattle.nd_cluster.proofs.cluster.Cluster.broadcast_changes.Goals as goal

pub returns-clause-ok : goal.returns-clause-ok
returns-clause-ok g c =
    let s = c.args.self.now in
    let d = c.in_ok-change.change in
    let q : c.processor.result.now ≡ processor s c.args.p = c.processor.ensures in
    broadcast_plans s c.args.p c.args.part.now d c.processor_count.ensures.state (omega (arith, c.n.ensures.value, c.if-sender-n.false))
    (c.in_ok-change.ensures.part ∙ ap (λ (r : ProcessorState). chosen c.args.part.now r.unsent) q)
    c.in_ok-change.ensures.some
    (subst (λ (r : ProcessorState). LeavesUpright s.graph r d) q (subst (λ (k : Dataflow). LeavesUpright k c.processor.result.now d) c.paths.ensures c.in_ok-change.ensures.upright))
    (λ h. absurd (cc (c.if-is_full.ensures.full.1 (subst (λ m. HasQueue IsFull (row m c.args.p)) (sym c.mesh.ensures.value) h))))
    c.requires
    c.changes_are_counted.ensures.sent (subst (λ (r : ProcessorState). IsPartOf d r.unsent) q c.in_ok-change.ensures.there)
