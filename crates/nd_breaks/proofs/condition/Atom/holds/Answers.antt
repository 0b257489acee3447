use Rattle.std.proofs.Common.{◌≡◌, ◌↔◌, ◌<◌, ◌≤◌, IsTrue, FitsSigned, w64, Bool, true, false, length, ap, sym, subst, ◌∙◌, arith, rules}
use Rattle.std.specs.Prelude.{nat_le}
use Rattle.std.proofs.lemmas.Bool.{le-ltb}
use Rattle.std.proofs.lemmas.Int.{to_z-of_z}
use Rattle.nd_graph.specs.Graph.{location_count}
use Rattle.nd_processor.specs.State.{held}
use Rattle.nd_protocol.specs.State.{ClusterState, processor}
use Rattle.nd_cluster.specs.Sinks.{sunk}
use Rattle.nd_breaks.proofs.condition.Atom.holds.Goals as goal
use Rattle.nd_breaks.proofs.condition.Atom.holds.Goals.{then-p-n, else-p-n}

pub returns-then-vertex-vertices : goal.returns-then-vertex-vertices
returns-then-vertex-vertices g c =
    let there : c.in-Sink.vertex < length c.args.cluster.now.graph.vertices = subst (λ xs. c.in-Sink.vertex < length xs) (c.vertices.ensures.vertices ∙ ap (λ d. d.vertices) c.graph.ensures) c.if-vertex-vertices.true in
    let range : FitsSigned w64 c.in-Sink.value = search rules in
    let counted : c.sink_count.result ≡ sunk c.args.cluster.now.processors c.in-Sink.vertex c.in-Sink.value = subst (λ v. c.sink_count.result ≡ sunk c.args.cluster.now.processors c.in-Sink.vertex v) (to_z-of_z w64 c.in-Sink.value range) c.sink_count.ensures in
    let counts : IsTrue (nat_le c.in-Sink.at_least c.sink_count.result) ↔ (c.in-Sink.at_least ≤ sunk c.args.cluster.now.processors c.in-Sink.vertex c.in-Sink.value) = search rules in
    rw c.in-Sink.is ((λ yes. (there, counts.0 yes)), (λ h. counts.1 h.1))

pub returns-then-to-n : goal.returns-then-to-n
returns-then-to-n g c = search rules

pub returns-then-has_place-5 : goal.returns-then-has_place-5
returns-then-has_place-5 g c =
    let s : ClusterState = c.args.cluster.now in
    let counts : IsTrue (nat_le c.from-then-has_place-5.result c.held.result) ↔ (c.in-Held.at_least ≤ held (processor s c.in-Held.p) c.in-Held.point) = search rules in
    let there : (c.in-Held.p < length s.processors) × (c.in-Held.point.location < location_count s.graph) =
    elim c.if-p-n.branch [
      | then-p-n w ↦ (omega (arith, w.if-p-n.true, c.n-in-Held.ensures.value), w.has_place-then-p-n.ensures.0 (sym w.value-is ∙ c.if-has_place-5.true))
      | else-p-n w ↦ absurd (let bad : false ≡ true = sym (le-ltb c.in-Held.p c.n-in-Held.result (omega (arith, w.if-p-n.false))) ∙ sym w.value-is ∙ c.if-has_place-5.true in cc)
    ]
    in
    rw c.in-Held.is ((λ yes. (there.0, there.1, counts.0 yes)), (λ h. counts.1 h.2))
