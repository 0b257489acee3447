use Rattle.std.proofs.Common.{◌≡◌, ◌∙◌, inr, refl, sym, ap, map, None, Err, ok_or, option_map, option_and_then}
use Rattle.std.proofs.lemmas.Result.{err_from_is_err_and}
use Rattle.serde_json.specs.View.{view}
use Rattle.nd_graph.specs.declared.fault.GraphFault.TheVariants.{Shape}
use Rattle.nd_graph.specs.Draft.{every, edge_of}
use Rattle.nd_graph.proofs.DraftLemmas.{every_seen-next, every_seen-refused}
use Rattle.nd_graph.proofs.draft.edges_of.Goals as goal

pub returns-in_err-edge-clause-err : goal.returns-in_err-edge-clause-err
returns-in_err-edge-clause-err g c =
    let p = err_from_is_err_and c.from_residual-in_err-edge.result c.from_residual-in_err-edge.ensures.1 in
    let given : Err c.in_err-edge.field-0.0 ≡ ok_or None Shape = c.in_err-edge.ensures.value ∙ ap (λ o. ok_or o Shape) c.in_err-edge.ensures.ok_part in
    let shape : c.in_err-edge.field-0.0 ≡ Shape = cc in
    let listed = sym c.list_at.ensures ∙ ap (option_map (λ vs. map view vs.now)) c.in_ok-values.ensures.ok_part in
    rw (p.1, p.2, shape) (inr (
      refl,
      ap (option_and_then (every edge_of)) listed ∙
          every_seen-refused view edge_of c.in_ok-values.values.now c.value-item.result c.loop-value.value-index c.loop-value-test.true c.value-item.is
          (sym c.edge_of.ensures ∙ c.in_err-edge.ensures.ok_part),
    ))

pub loop-value-preserved : goal.loop-value-preserved
loop-value-preserved g c =
    rw (c.in_ok-push.ensures.items) (every_seen-next view edge_of c.in_ok-values.values.now c.value-item.result c.loop-value.value-index c.loop-value.edges.items c.in_ok-edge.edge
    c.loop-value-test.true c.value-item.is c.loop-value.invariant (sym c.edge_of.ensures ∙ c.in_ok-edge.ensures.ok_part))
