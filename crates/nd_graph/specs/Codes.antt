-- Graphs encoded as numbers, so that the value of a model can contain a graph.
use Rattle.std.specs.Prelude.{◌≡◌, ℕ, ℤ, pos, Bool, true, false, List, [], ◌∷◌, slice_index_or, unsigned_abs, refl}
use Rattle.std.specs.Coded.{Coded, code_by, coded×, coded_ℕ, coded_ℤ, coded_bool, coded_list}
use Rattle.nd_time.specs.declared.order.TimeOrder.{TimeOrder}
use Rattle.nd_time.specs.declared.order.TimeOrder.TheVariants.{Lexicographic, Product}
use Rattle.nd_graph.specs.Graph.{Dataflow}
use Rattle.nd_graph.specs.declared.op.Op.{Op}
use Rattle.nd_graph.specs.declared.op.Op.TheVariants.{Input, Ingress, Egress, Feedback, Add, Mul, Below, Split, Sum, Distinct, Hold, Opaque, Sink}
use Rattle.nd_graph.specs.declared.op.Route.{Route}
use Rattle.nd_graph.specs.declared.op.Route.TheVariants.{Local, Exchange}
use Rattle.nd_graph.specs.declared.graph.Vertex.{Vertex}
use Rattle.nd_graph.specs.declared.graph.Edge.{Edge}

-- an operator as its position among all operators, and its constant
abbrev pub op_parts : Op → ℕ × ℤ
op_parts Input = (0, pos 0)
op_parts Ingress = (1, pos 0)
op_parts Egress = (2, pos 0)
op_parts Feedback = (3, pos 0)
op_parts (Add k) = (4, k)
op_parts (Mul k) = (5, k)
op_parts (Below k) = (6, k)
op_parts (Split k) = (7, k)
op_parts Sum = (8, pos 0)
op_parts Distinct = (9, pos 0)
op_parts Hold = (10, pos 0)
op_parts (Opaque ports false) = (11, pos ports)
op_parts (Opaque ports true) = (12, pos ports)
op_parts Sink = (13, pos 0)

abbrev pub op_of : ℕ × ℤ → Op
op_of p =
    slice_index_or
    (Input ∷ Ingress ∷ Egress ∷ Feedback ∷ Add p.1 ∷ Mul p.1 ∷ Below p.1 ∷ Split p.1 ∷ Sum ∷ Distinct ∷ Hold ∷ Opaque (unsigned_abs p.1) false
    ∷ Opaque (unsigned_abs p.1) true ∷ [])
    p.0 Sink

pub op_back : (o : Op) → op_of (op_parts o) ≡ o
op_back (Opaque ports false) = refl
op_back (Opaque ports true) = refl
op_back Input = refl
op_back _ = refl

abbrev pub is_local : Route → Bool
is_local Local = true
is_local Exchange = false

abbrev pub route_of : Bool → Route
route_of true = Local
route_of false = Exchange

pub route_back : (r : Route) → route_of (is_local r) ≡ r
route_back Local = refl
route_back Exchange = refl

abbrev pub is_lexicographic : TimeOrder → Bool
is_lexicographic Lexicographic = true
is_lexicographic Product = false

abbrev pub order_of : Bool → TimeOrder
order_of true = Lexicographic
order_of false = Product

pub order_back : (o : TimeOrder) → order_of (is_lexicographic o) ≡ o
order_back Lexicographic = refl
order_back Product = refl

abbrev pub op_code : Coded Op
op_code = code_by (ℕ × ℤ) (coded× coded_ℕ coded_ℤ) op_parts op_of op_back

abbrev pub route_code : Coded Route
route_code = code_by Bool coded_bool is_local route_of route_back

abbrev pub order_code : Coded TimeOrder
order_code = code_by Bool coded_bool is_lexicographic order_of order_back

abbrev pub vertex_code : Coded Vertex
vertex_code =
    code_by (List ℕ × (Op × ℕ)) (coded× (coded_list coded_ℕ) (coded× op_code coded_ℕ))
    (λ v. (v.name, (v.op, v.depth)))
    (λ t. record { name = t.0; op = t.1.0; depth = t.1.1 })
    (λ _. refl)

abbrev pub edge_code : Coded Edge
edge_code =
    code_by (List ℕ × (ℕ × (ℕ × (ℕ × Route)))) (coded× (coded_list coded_ℕ) (coded× coded_ℕ (coded× coded_ℕ (coded× coded_ℕ route_code))))
    (λ e. (e.name, (e.from, (e.port, (e.to, e.route)))))
    (λ t. record { name = t.0; from = t.1.0; port = t.1.1.0; to = t.1.1.1.0; route = t.1.1.1.1 })
    (λ _. refl)

abbrev pub graph_code : Coded Dataflow
graph_code =
    code_by (TimeOrder × (List Vertex × List Edge)) (coded× order_code (coded× (coded_list vertex_code) (coded_list edge_code)))
    (λ g. (g.order, (g.vertices, g.edges)))
    (λ t. record { order = t.0; vertices = t.1.0; edges = t.1.1 })
    (λ _. refl)
