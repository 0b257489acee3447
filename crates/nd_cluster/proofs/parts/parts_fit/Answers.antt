use Rattle.std.proofs.Common.{◌≡◌, ◌<◌, ◌≤◌, ℕ, List, length, map, refl, sym, ap, subst, ◌∙◌, arith}
use Rattle.std.proofs.lemmas.List.{length-map}
use Rattle.std.specs.Prelude.{All}
use Rattle.nd_time.specs.Limits.{max_processors}
use Rattle.nd_graph.specs.Graph.{Dataflow}
use Rattle.nd_paths.specs.Order.{IsAccepted}
use Rattle.nd_delta.specs.Delta.{DeltaValue}
use Rattle.nd_view.specs.Kept.{Kept}
use Rattle.nd_processor.specs.State.{ProcessorState}
use Rattle.nd_protocol.specs.Fitting.{IsOrdered, IsState, ProcessorFits, DeltaFits}
use Rattle.nd_cluster.specs.Parts.{RowFits}
use Rattle.nd_cluster.proofs.Starts.{ordered}
use Rattle.nd_cluster.proofs.States.{of_parts}
use Rattle.nd_cluster.proofs.PartsLemmas.{views_to, mesh_to, state_from}
use Rattle.nd_cluster.proofs.parts.parts_fit.Goals as goal
use Rattle.nd_cluster.proofs.parts.parts_fit.Goals.{then-views-n-via-then-views-n, then-views-n-via-else-views-n+then-n}

pub returns-then-not-processors_fit : goal.returns-then-not-processors_fit
returns-then-not-processors_fit g c = (
  λ t. absurd (cc (t)),
  λ s. c.if-not-processors_fit.ensures.fits.1 (subst (λ (e : Dataflow × List ProcessorState). All (ProcessorFits e.0) e.1) (λ i. (sym (c.graph-graph.ensures.value ∙ c.paths.ensures) i, sym c.processors.ensures i)) s.fits.processors),
)

pub returns-then-not-views_fit : goal.returns-then-not-views_fit
returns-then-not-views_fit g c = (
  λ t. absurd (cc (t)),
  λ s.
      let k = c.args.parts.now.graph in
      let ps = c.processors.result.now in
      let vs = c.views-views.result.now in
      let m = c.mesh-mesh.result.now in
      let state = subst IsState (sym (of_parts k ps vs m c.args.parts.now refl c.processors.ensures c.views-views.ensures.maps c.mesh-mesh.ensures)) s in
      c.if-not-views_fit.ensures.fits.1
      (subst (λ (k : Dataflow). All (λ (v : Kept). DeltaFits k v.map) vs) (sym (c.graph-graph.ensures.value ∙ c.paths.ensures))
      (views_to k ps vs m c.n.ensures.mesh state)),
)

pub returns : goal.returns
returns g c =
    let k = c.args.parts.now.graph in
    let ps = c.processors.result.now in
    let vs = c.views-views.result.now in
    let m = c.mesh-mesh.result.now in
    let whole = of_parts k ps vs m c.args.parts.now refl c.processors.ensures c.views-views.ensures.maps c.mesh-mesh.ensures in
    let is : c.graph-graph.result.now ≡ k = c.graph-graph.ensures.value ∙ c.paths.ensures in
    let order : IsOrdered k
    = subst IsOrdered is (ordered c.graph-graph.result.now c.vertices.ensures.sound c.all_arcs.ensures.agree (subst IsAccepted (sym c.graph-graph.ensures.value) c.graph-graph.ensures.accepted)) in
    let many : length ps ≡ c.n-n.result = ap (λ (qs : List ProcessorState). length qs) c.processors.ensures ∙ sym c.n-n.ensures in
    let some : 0 < length ps = omega (arith, many, c.if-n-eq0.false) in
    let few : length ps ≤ max_processors = omega (arith, many, c.if-n-gt-MAX_PROCESSORS.false) in
    let each_view : length vs ≡ length ps = omega (arith, many, c.if-views-n.false) in
    let each_sender : length m ≡ length ps = omega (arith, many, c.if-n.false, c.n.ensures.value) in (
      λ t. subst IsState whole (state_from k ps vs m c.n.ensures.mesh order some few each_view each_sender
          (subst (λ (k : Dataflow). All (ProcessorFits k) ps) is (c.if-not-processors_fit.ensures.fits.0 refl))
          (c.if-not-processors_fit.ensures.within refl)
          (subst (λ (k : Dataflow). All (λ (v : Kept). DeltaFits k v.map) vs) is (c.if-not-views_fit.ensures.fits.0 refl))
          (c.if-not-views_fit.ensures.within refl)
          (subst (λ (k : Dataflow). (p : ℕ) → p < length m → RowFits k m p) is (c.mesh_fits.ensures.fits.0 t))
          (c.mesh_fits.ensures.within t)),
      λ s. c.mesh_fits.ensures.fits.1 (subst (λ (k : Dataflow). (p : ℕ) → p < length m → RowFits k m p) (sym is) (mesh_to k ps vs m c.n.ensures.mesh (subst IsState (sym whole) s))),
    )

pub returns-then-views-n : goal.returns-then-views-n
returns-then-views-n g c = (
  λ t. absurd (cc (t)),
  λ s.
      let vs = c.views-views.result.now in
      let maps : length (map (λ (v : Kept). v.map) vs) ≡ length c.args.parts.now.views = ap (λ (ms : List DeltaValue). length ms) c.views-views.ensures.maps in
      let rows : length c.mesh-mesh.result.now ≡ length c.args.parts.now.queues = ap (λ (m : List (List (List DeltaValue))). length m) c.mesh-mesh.ensures in
      let count : length (map (λ (v : Kept). v.map) vs) ≡ length vs = length-map vs (λ (v : Kept). v.map) in
      elim c.then-views-n.branch [
        | then-views-n-via-then-views-n w ↦ absurd (omega (arith, w.if-views-n, s.fits.each_view, maps, count, c.n-n.ensures))
        | then-views-n-via-else-views-n+then-n w ↦ absurd (omega (arith, w.if-n, w.n.ensures.value, s.fits.each_sender, rows, c.n-n.ensures))
      ],
)
