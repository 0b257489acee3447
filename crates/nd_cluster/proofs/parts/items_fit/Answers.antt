use Rattle.std.proofs.Common.{◌<◌, ◌≤◌, length, refl, inl, inr, sym, subst, arith}
use Rattle.nd_processor.specs.State.{items_at}
use Rattle.nd_cluster.specs.Parts.{ItemsFit}
use Rattle.nd_cluster.proofs.PartsLemmas.{split}
use Rattle.nd_cluster.proofs.parts.items_fit.Goals as goal

pub loop-vertex-preserved : goal.loop-vertex-preserved
loop-vertex-preserved g c v lt =
    let here : ItemsFit c.args.graph.now c.loop-vertex.vertex (items_at c.args.processor.now c.loop-vertex.vertex)
    = subst (ItemsFit c.args.graph.now c.loop-vertex.vertex) c.vertex_state.ensures (c.if-not-state_fits.ensures.0 refl) in
    elim (split v c.loop-vertex.vertex lt) [
      | inl h ↦ c.loop-vertex.invariant v h
      | inr e ↦ subst (λ w. ItemsFit c.args.graph.now w (items_at c.args.processor.now w)) (sym e) here
    ]

pub returns-then-not-state_fits : goal.returns-then-not-state_fits
returns-then-not-state_fits g c =
    let near : c.loop-vertex.vertex < length c.args.processor.now.items = omega (arith, c.loop-vertex-test.true, c.vertex_count-vertex-end.ensures) in
    (λ t. absurd (cc (t)), λ all. c.if-not-state_fits.ensures.1 (subst (ItemsFit c.args.graph.now c.loop-vertex.vertex) (sym c.vertex_state.ensures) (all c.loop-vertex.vertex near)))

pub returns : goal.returns
returns g c =
    let end : length c.args.processor.now.items ≤ c.loop-vertex.vertex = omega (arith, c.loop-vertex-test.false, c.vertex_count-vertex-end.ensures) in
    (λ _ v lt. c.loop-vertex.invariant v (omega (arith, lt, end)), λ _. refl)
