use Rattle.std.proofs.Common.{◌∙◌, ◌++◌, ◌∷◌, [], inl, inr, ap, sym, map, take, append_assoc}
use Rattle.std.proofs.lemmas.Result.{err_from_is_err_and}
use Rattle.nd_graph.proofs.NameLaws.{map-next, has_double-new, has_double-first, has_double-second}
use Rattle.nd_graph.proofs.names.numbered.Goals as goal

pub returns-in_err-add_name-clause-err : goal.returns-in_err-add_name-clause-err
returns-in_err-add_name-clause-err g c =
    let p = err_from_is_err_and c.from_residual.result c.from_residual.ensures.1 in
    rw (p.1, p.2) (elim c.in_err-add_name.ensures.err [
      | inl h ↦ inl h
      | inr h ↦ inr (
        h.0,
        has_double-first (λ v. v.name) c.args.vertices.now c.vertex-item.result c.loop-vertex.vertex-index c.loop-vertex.names.keys (map (λ e. e.name) c.args.edges.now)
            c.loop-vertex-test.true c.vertex-item.is c.loop-vertex.invariant.all h.1,
      )
    ])

pub loop-vertex-preserved : goal.loop-vertex-preserved
loop-vertex-preserved g c = record {
  all = c.in_ok-add_name.ensures.added
      ∙ ap (λ ks. ks ++ c.vertex-item.result.name ∷ []) c.loop-vertex.invariant.all
      ∙ sym (map-next (λ v. v.name) c.args.vertices.now c.vertex-item.result c.loop-vertex.vertex-index c.loop-vertex-test.true c.vertex-item.is);
  once = rw c.in_ok-add_name.ensures.added (has_double-new c.loop-vertex.names.keys c.vertex-item.result.name c.loop-vertex.invariant.once c.in_ok-add_name.ensures.new);
}

pub returns-in_err-add_name-2-clause-err : goal.returns-in_err-add_name-2-clause-err
returns-in_err-add_name-2-clause-err g c =
    let p = err_from_is_err_and c.from_residual-in_err-add_name-2.result c.from_residual-in_err-add_name-2.ensures.1 in
    rw (p.1, p.2) (elim c.in_err-add_name-2.ensures.err [
      | inl h ↦ inl h
      | inr h ↦ inr (
        h.0,
        has_double-second (λ e. e.name) (map (λ v. v.name) c.args.vertices.now) c.args.edges.now c.edge-item.result c.loop-edge.edge-index c.loop-edge.names.keys
            c.loop-edge-test.true c.edge-item.is c.loop-edge.invariant.all h.1,
      )
    ])

pub loop-edge-preserved : goal.loop-edge-preserved
loop-edge-preserved g c = record {
  all = c.in_ok-add_name-2.ensures.added
      ∙ ap (λ ks. ks ++ c.edge-item.result.name ∷ []) c.loop-edge.invariant.all
      ∙ append_assoc (map (λ v. v.name) c.args.vertices.now) (map (λ e. e.name) (take c.loop-edge.edge-index c.args.edges.now)) (c.edge-item.result.name ∷ [])
      ∙ ap (λ ks. map (λ v. v.name) c.args.vertices.now ++ ks)
      (sym (map-next (λ e. e.name) c.args.edges.now c.edge-item.result c.loop-edge.edge-index c.loop-edge-test.true c.edge-item.is));
  once = rw c.in_ok-add_name-2.ensures.added (has_double-new c.loop-edge.names.keys c.edge-item.result.name c.loop-edge.invariant.once c.in_ok-add_name-2.ensures.new);
}
