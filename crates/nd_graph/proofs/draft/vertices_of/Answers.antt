use Rattle.std.proofs.Common.{◌≡◌, ◌∙◌, inr, refl, sym, ap, map, None, Err, ok_or, option_map, option_and_then}
use Rattle.std.proofs.lemmas.Result.{err_from_is_err_and}
use Rattle.serde_json.specs.View.{view}
use Rattle.nd_graph.specs.declared.fault.GraphFault.TheVariants.{Shape}
use Rattle.nd_graph.specs.Draft.{every, vertex_of}
use Rattle.nd_graph.proofs.DraftLemmas.{every_seen-next, every_seen-refused}
use Rattle.nd_graph.proofs.draft.vertices_of.Goals as goal

pub returns-in_err-vertex-clause-err : goal.returns-in_err-vertex-clause-err
returns-in_err-vertex-clause-err g c =
    let p = err_from_is_err_and c.from_residual-in_err-vertex.result c.from_residual-in_err-vertex.ensures.1 in
    let given : Err c.in_err-vertex.field-0.0 ≡ ok_or None Shape = c.in_err-vertex.ensures.value ∙ ap (λ o. ok_or o Shape) c.in_err-vertex.ensures.ok_part in
    let shape : c.in_err-vertex.field-0.0 ≡ Shape = cc in
    let listed = sym c.list_at.ensures ∙ ap (option_map (λ vs. map view vs.now)) c.in_ok-values.ensures.ok_part in
    rw (p.1, p.2, shape) (inr (
      refl,
      ap (option_and_then (every vertex_of)) listed ∙
          every_seen-refused view vertex_of c.in_ok-values.values.now c.value-item.result c.loop-value.value-index c.loop-value-test.true c.value-item.is
          (sym c.vertex_of.ensures ∙ c.in_err-vertex.ensures.ok_part),
    ))

pub loop-value-preserved : goal.loop-value-preserved
loop-value-preserved g c =
    rw (c.in_ok-push.ensures.items) (every_seen-next view vertex_of c.in_ok-values.values.now c.value-item.result c.loop-value.value-index c.loop-value.vertices.items c.in_ok-vertex.vertex
    c.loop-value-test.true c.value-item.is c.loop-value.invariant (sym c.vertex_of.ensures ∙ c.in_ok-vertex.ensures.ok_part))
