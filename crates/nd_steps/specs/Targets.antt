-- The target of an edge is a vertex of the graph.
use Rattle.std.specs.Prelude.{◌≡◌, ℕ, zero, suc, ◌+◌, ◌-◌, ◌<◌, ◌≤◌, All, Some, List, [], ◌∷◌, length, slice_get, refl}
use Rattle.std.specs.Option.{option_map_or}
use Rattle.std.proofs.Common.{ap, arith}
use Rattle.nd_graph.specs.Graph.{Dataflow}
use Rattle.nd_graph.specs.Checked.{JoinsVertices}
use Rattle.nd_graph.specs.declared.graph.Edge.{Edge}
use Rattle.nd_protocol.specs.Steps.{target_of}

found_edge : {X : Type 0} (P : X → Type 0) (xs : List X) (i : ℕ) → i < length xs → All P xs → (x : X) × ((slice_get xs i ≡ Some x) × P x)
found_edge P [] i lt all = absurd (omega arith)
found_edge P (x ∷ xs) zero lt all = (x, (refl, all 0 x (omega arith)))
found_edge P (x ∷ xs) (suc i) lt all = found_edge P xs i (omega arith) (λ k d l. all (suc k) d (omega arith))

pub target_there : (g : Dataflow) (edge : ℕ) → All (JoinsVertices g.vertices) g.edges → length g.vertices ≤ edge → edge < length g.vertices + length g.edges → target_of g edge < length g.vertices
target_there g edge joined low high =
    let (e, found) = found_edge (JoinsVertices g.vertices) g.edges (edge - length g.vertices) (omega arith) joined in
    let is : target_of g edge ≡ e.to = ap (λ o. option_map_or (λ (e : Edge). e.to) o 0) found.0 in
    omega (arith, found.1.to)
