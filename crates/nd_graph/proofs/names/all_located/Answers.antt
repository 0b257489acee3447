use Rattle.std.proofs.Common.{◌≡◌, ◌∙◌, inr, refl, sym, ap, None, Err, ok_or}
use Rattle.std.proofs.lemmas.Result.{err_from_is_err_and}
use Rattle.nd_graph.specs.declared.fault.GraphFault.TheVariants.{UnknownName}
use Rattle.nd_graph.specs.Checked.{located}
use Rattle.nd_graph.proofs.DraftLemmas.{every-refused, every-next}
use Rattle.nd_graph.proofs.names.all_located.Goals as goal

pub returns-in_err-edge-clause-err : goal.returns-in_err-edge-clause-err
returns-in_err-edge-clause-err g c =
    let p = err_from_is_err_and c.from_residual.result c.from_residual.ensures.1 in
    let given : Err c.in_err-edge.field-0.0 ≡ ok_or None UnknownName = c.in_err-edge.ensures.value ∙ ap (λ o. ok_or o UnknownName) c.in_err-edge.ensures.ok_part in
    let unknown : c.in_err-edge.field-0.0 ≡ UnknownName = cc in
    rw (p.1, p.2, unknown) (inr (
      refl,
      every-refused (located c.args.vertices.now) c.args.edges.now c.edge-item.result c.loop-edge.edge-index c.loop-edge-test.true c.edge-item.is
          (sym c.located.ensures ∙ c.in_err-edge.ensures.ok_part),
    ))

pub loop-edge-preserved : goal.loop-edge-preserved
loop-edge-preserved g c =
    rw c.in_ok-push.ensures.items (every-next (located c.args.vertices.now) c.args.edges.now c.edge-item.result c.loop-edge.edge-index c.loop-edge.found.items c.in_ok-edge.edge
    c.loop-edge-test.true c.edge-item.is c.loop-edge.invariant (sym c.located.ensures ∙ c.in_ok-edge.ensures.ok_part))
