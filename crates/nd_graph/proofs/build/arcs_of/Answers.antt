use Rattle.std.proofs.Common.{◌∙◌, ◌+◌, ◌≤◌, ◌++◌, ◌∷◌, [], ap, sym, length, take, append_assoc, arith}
use Rattle.std.proofs.lemmas.List.{take_more, length-take-le}
use Rattle.nd_graph.specs.declared.graph.Arc.{Arc}
use Rattle.nd_graph.specs.declared.op.Action.TheVariants.{Identity}
use Rattle.nd_graph.specs.Graph.{arcs_from, action_at}
use Rattle.nd_graph.proofs.Agreement.{arcs_from-push}
use Rattle.nd_graph.proofs.build.arcs_of.Goals as goal

pub loop-index-preserved : goal.loop-index-preserved
loop-index-preserved g c =
    let vertices = c.args.vertices.now in
    let edges = c.args.edges.now in
    let i = c.loop-index.index in
    let e = c.index-edges-index.result in
    let here = length vertices + i in
    let within : i ≤ length edges = omega arith in
    let into : Arc = record { from = e.from; action = c.source_action.result; to = here } in
    let out : Arc = record { from = here; action = Identity; to = e.to } in
    c.in_ok-push-2.ensures.items
    ∙ ap (λ arcs. arcs ++ out ∷ []) c.in_ok-push.ensures.items
    ∙ append_assoc c.loop-index.arcs.items (into ∷ []) (out ∷ [])
    ∙ ap (λ action. c.loop-index.arcs.items ++ record { from = e.from; action = action; to = here } ∷ out ∷ []) c.source_action.ensures
    ∙ ap (λ arcs. arcs ++ record { from = e.from; action = action_at vertices e.from; to = here } ∷ out ∷ []) c.loop-index.invariant
    ∙ sym (arcs_from-push vertices (length vertices) (take i edges) e here (omega (arith, length-take-le i edges within)))
    ∙ ap (arcs_from vertices (length vertices)) (sym (take_more edges i e c.loop-index-test.true ∙ ap (λ x. take i edges ++ x ∷ []) (sym c.index-edges-index.is)))
