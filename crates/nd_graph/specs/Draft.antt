-- The JSON form of a graph.
use Rattle.std.specs.Prelude.{ℕ, ℤ, Bool, true, false, ◌&&◌, nat_le, List, [], ◌∷◌, if◌then◌else◌, Option, Some, None, option_map, option_and_then, codes}
use Rattle.std.specs.Str.{bytes_eq}
use Rattle.std.specs.List.{list_all, list_any}
use Rattle.serde_json.specs.Data.{Data}
use Rattle.nd_time.specs.Limits.{max_ports}
use Rattle.nd_time.specs.declared.order.TimeOrder.{TimeOrder}
use Rattle.nd_time.specs.declared.order.TimeOrder.TheVariants.{Lexicographic, Product}
use Rattle.nd_json.specs.Forms.{has_keys, text_at, small_at, integer_at, boolean_at, list_at}
use Rattle.nd_graph.specs.Name.{is_name, is_name_v8}
use Rattle.nd_graph.specs.declared.op.Op.{Op}
use Rattle.nd_graph.specs.declared.op.Op.TheVariants as op
use Rattle.nd_graph.specs.declared.op.Route.{Route}
use Rattle.nd_graph.specs.declared.op.Route.TheVariants.{Local, Exchange}
use Rattle.nd_graph.specs.declared.graph.Vertex.{Vertex}
use Rattle.nd_graph.specs.declared.draft.DraftEdge.{DraftEdge}

-- a graph as it is written: the ends of its edges are names
pub record Draft : Type 0 where
  pub order : TimeOrder
  pub vertices : List Vertex
  pub edges : List DraftEdge

-- all items, if each of them can be read
abbrev pub every : {D X : Type 0} → (D → Option X) → List D → Option (List X)
every read [] = Some []
every read (d ∷ ds) = option_and_then (λ x. option_map (λ xs. x ∷ xs) (every read ds)) (read d)

-- the text, if it is a name
abbrev pub name_of : List ℕ → Option (List ℕ)
name_of text = if is_name text then Some text else None

-- the operator without a constant that a text names
unfoldable pub plain_op : List ℕ → Option Op
plain_op text =
    if bytes_eq text (codes "input") then Some op.Input else
    (if bytes_eq text (codes "ingress") then Some op.Ingress else
    (if bytes_eq text (codes "egress") then Some op.Egress else
    (if bytes_eq text (codes "feedback") then Some op.Feedback else
    (if bytes_eq text (codes "sum") then Some op.Sum else
    (if bytes_eq text (codes "distinct") then Some op.Distinct else
    (if bytes_eq text (codes "hold") then Some op.Hold else
    (if bytes_eq text (codes "sink") then Some op.Sink else None)))))))

-- the operator with the constant k that a text names
unfoldable pub numbered_op : List ℕ → ℤ → Option Op
numbered_op text k =
    if bytes_eq text (codes "add") then Some (op.Add k) else
    (if bytes_eq text (codes "mul") then Some (op.Mul k) else
    (if bytes_eq text (codes "below") then Some (op.Below k) else
    (if bytes_eq text (codes "split") then Some (op.Split k) else None)))

-- the opaque operator with so many ports that a text names
unfoldable pub opaque_op : List ℕ → ℕ → Bool → Option Op
opaque_op text ports starts = if bytes_eq text (codes "opaque") && nat_le ports max_ports then Some (op.Opaque ports starts) else None

-- an opaque operator; its number of ports is at the key "ports"
abbrev pub opaque_of : Data → Bool → Option Op
opaque_of d starts = option_and_then (λ text. option_and_then (λ ports. opaque_op text ports starts) (small_at (codes "ports") d)) (text_at (codes "op") d)

unfoldable pub route_of : List ℕ → Option Route
route_of text =
    if bytes_eq text (codes "local") then Some Local else
    (if bytes_eq text (codes "exchange") then Some Exchange else None)

-- the operator of a vertex; its constant is at the key "k", its ports and whether it starts with a capability at "ports" and
-- "starts"
unfoldable pub op_of : Data → Option Op
op_of d =
    if has_keys (codes "depth" ∷ codes "name" ∷ codes "op" ∷ []) d
    then option_and_then plain_op (text_at (codes "op") d)
    else (if has_keys (codes "depth" ∷ codes "k" ∷ codes "name" ∷ codes "op" ∷ []) d
    then option_and_then (λ text. option_and_then (numbered_op text) (integer_at (codes "k") d)) (text_at (codes "op") d)
    else (if has_keys (codes "depth" ∷ codes "name" ∷ codes "op" ∷ codes "ports" ∷ []) d
    then opaque_of d false
    else (if has_keys (codes "depth" ∷ codes "name" ∷ codes "op" ∷ codes "ports" ∷ codes "starts" ∷ []) d
    then option_and_then (opaque_of d) (boolean_at (codes "starts") d)
    else None)))

-- the name of a vertex or an edge
unfoldable pub name_in : Data → Option (List ℕ)
name_in d = option_and_then name_of (text_at (codes "name") d)

unfoldable pub vertex_of : Data → Option Vertex
vertex_of d =
    option_and_then (λ name. option_and_then (λ operator. option_map
    (λ depth. record { name = name; op = operator; depth = depth })
    (small_at (codes "depth") d)) (op_of d)) (name_in d)

-- an edge; each end may be any string, and a string that does not have the form of a name names no vertex
unfoldable pub edge_of : Data → Option DraftEdge
edge_of d =
    if has_keys (codes "from" ∷ codes "name" ∷ codes "port" ∷ codes "route" ∷ codes "to" ∷ []) d
    then option_and_then (λ name. option_and_then (λ from. option_and_then (λ port. option_and_then (λ to. option_map
    (λ route. record { name = name; from = name_of from; port = port; to = name_of to; route = route })
    (option_and_then route_of (text_at (codes "route") d))) (text_at (codes "to") d))
    (small_at (codes "port") d)) (text_at (codes "from") d)) (name_in d)
    else None

-- the vertices or edges at a key
abbrev pub every_at : {X : Type 0} → List ℕ → (Data → Option X) → Data → Option (List X)
every_at key read d = option_and_then (every read) (list_at key d)

abbrev pub vertices_in : Data → Option (List Vertex)
vertices_in d = every_at (codes "vertices") vertex_of d

abbrev pub edges_in : Data → Option (List DraftEdge)
edges_in d = every_at (codes "edges") edge_of d

-- the order of timestamps that a text names
unfoldable pub order_of : List ℕ → Option TimeOrder
order_of text =
    if bytes_eq text (codes "lexicographic") then Some Lexicographic else
    (if bytes_eq text (codes "product") then Some Product else None)

-- the keys of a graph that does not name its order
abbrev pub has_plain_keys : Data → Bool
has_plain_keys d = has_keys (codes "edges" ∷ codes "vertices" ∷ []) d

-- the order of a graph's timestamps, which is lexicographic without the key "order"
unfoldable pub order_in : Data → Option TimeOrder
order_in d =
    if has_plain_keys d then Some Lexicographic else
    (if has_keys (codes "edges" ∷ codes "order" ∷ codes "vertices" ∷ []) d
    then option_and_then order_of (text_at (codes "order") d)
    else None)

-- the graph that a JSON value describes
unfoldable pub draft_of : Data → Option Draft
draft_of d =
    option_and_then (λ order. option_and_then (λ vertices. option_map
    (λ edges. record { order = order; vertices = vertices; edges = edges }) (edges_in d)) (vertices_in d)) (order_in d)

-- ---- earlier versions

-- each vertex and each edge has a name that the versions before 9 have
abbrev pub are_named_v8 : List Vertex → List DraftEdge → Bool
are_named_v8 vertices edges = list_all (λ v. is_name_v8 v.name) vertices && list_all (λ e. is_name_v8 e.name) edges

-- the draft, if all its names are such names
abbrev pub with_names_v8 : Draft → Option Draft
with_names_v8 draft = if are_named_v8 draft.vertices draft.edges then Some draft else None

abbrev pub is_opaque : Op → Bool
is_opaque (op.Opaque _ _) = true
is_opaque _ = false

abbrev pub is_hold : Op → Bool
is_hold op.Hold = true
is_hold _ = false

-- the draft, if none of its vertices has such an operator
abbrev pub without : (Op → Bool) → Draft → Option Draft
without banned draft = if list_any (λ v. banned v.op) draft.vertices then None else Some draft

-- the graph that a JSON value describes in a script of a version before 9, which does not name its order
unfoldable pub draft_of_v8 : Data → Option Draft
draft_of_v8 d = if has_plain_keys d then option_and_then with_names_v8 (draft_of d) else None

-- the same for a version before 6
unfoldable pub draft_of_v5 : Data → Option Draft
draft_of_v5 d = option_and_then (without is_opaque) (draft_of_v8 d)

-- the same for a version before 5
unfoldable pub draft_of_v4 : Data → Option Draft
draft_of_v4 d = option_and_then (without is_hold) (draft_of_v5 d)
