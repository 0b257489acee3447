use Rattle.std.specs.Prelude.{List, Some, ok_or, codes}
use Rattle.std.proofs.Common.{◌≡◌, ◌∙◌, ap, sym}
use Rattle.serde_json.specs.Data.{Data}
use Rattle.serde_json.specs.View.{view}
use Rattle.nd_time.specs.declared.order.TimeOrder.{TimeOrder}
use Rattle.nd_graph.specs.Draft.{draft_of, order_in, every_at, vertex_of, edge_of}
use Rattle.nd_graph.specs.declared.graph.Vertex.{Vertex}
use Rattle.nd_graph.specs.declared.draft.DraftEdge.{DraftEdge}
use Rattle.nd_graph.specs.declared.fault.GraphFault.TheVariants.{Shape}
use Rattle.nd_graph.proofs.draft.GraphDraft.from_value.Goals as goal

read : (d : Data) (order : TimeOrder) (vertices : List Vertex) (edges : List DraftEdge) → order_in d ≡ Some order → every_at (codes "vertices") vertex_of d ≡ Some vertices
    → every_at (codes "edges") edge_of d ≡ Some edges → draft_of d ≡ Some (record { order = order; vertices = vertices; edges = edges })
unfolding draft_of
read d order vertices edges some_order some_vertices some_edges = rw (some_order, some_vertices, some_edges)

pub returns : goal.returns
returns g c =
    let order = sym c.order_in.ensures ∙ c.in_ok-order.ensures.ok_part in
    ap (λ d. ok_or d Shape) (read (view c.args.value.now) c.in_ok-order.order c.in_ok-vertices.vertices.items c.in_ok-edges.edges.items order c.in_ok-vertices.ensures.ok c.in_ok-edges.ensures.ok)
