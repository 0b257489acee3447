use Rattle.std.specs.Prelude.{ℕ, List}
use Rattle.std.proofs.Common.{◌≡◌, ◌∙◌, sym, subst}
use Rattle.nd_graph.specs.Graph.{Dataflow, IsGraph}
use Rattle.nd_graph.specs.Checked.{IsFaultless}
use Rattle.nd_graph.specs.declared.graph.Arc.{Arc}
use Rattle.nd_graph.proofs.graph.Graph.copy.Goals as goal

pub invariant_of-result : goal.invariant_of-result
invariant_of-result g c =
    let a = c.self.inside in
    let d : Dataflow = record { order = a.order; vertices = a.vertices.items; edges = a.edges.items } in
    let vertices : a.vertices.items ≡ c.in_ok-vertices.vertices.items = sym (c.in_ok-vertices.ensures ∙ c.deref.ensures.value) in
    let edges : a.edges.items ≡ c.in_ok-edges.edges.items = sym (c.in_ok-edges.ensures ∙ c.deref-2.ensures.value) in
    let depths : a.depths.items ≡ c.in_ok-depths.depths.items = sym (c.in_ok-depths.ensures.items ∙ c.deref-3.ensures.value) in
    let arcs : a.arcs.items ≡ c.in_ok-arcs.arcs.items = sym (c.in_ok-arcs.ensures.items ∙ c.deref-4.ensures.value) in
    let equal : d ≡ record { order = a.order; vertices = c.in_ok-vertices.vertices.items; edges = c.in_ok-edges.edges.items } = λ i. record { order = a.order; vertices = vertices i; edges = edges i } in
    subst (λ (k : Dataflow). IsGraph k c.in_ok-depths.depths.items c.in_ok-arcs.arcs.items × IsFaultless k) equal
    (subst (λ (ds : List ℕ). IsGraph d ds c.in_ok-arcs.arcs.items × IsFaultless d) depths
    (subst (λ (kept : List Arc). IsGraph d a.depths.items kept × IsFaultless d) arcs c.self.invariant))

pub returns : goal.returns
returns g c =
    let vertices : c.in_ok-vertices.vertices.items ≡ c.self.inside.vertices.items = c.in_ok-vertices.ensures ∙ c.deref.ensures.value in
    let edges : c.in_ok-edges.edges.items ≡ c.self.inside.edges.items = c.in_ok-edges.ensures ∙ c.deref-2.ensures.value in
    (λ i. record { order = c.self.inside.order; vertices = vertices i; edges = edges i }) ∙ c.self.view_is
