-- Which graphs are rejected, and with which error.
use Rattle.std.specs.Prelude.{◌≡◌, ℕ, ◌<◌, All, Bool, false, not, ◌==◌, ◌&&◌, ◌||◌, nat_lt, nat_le, List, [], ◌∷◌, ◌++◌, length, map, if◌then◌else◌, Option, Some, None, ok_or, option_map, option_and_then, Result, Ok, Err, slice_get}
use Rattle.std.specs.Option.{option_map_or}
use Rattle.std.specs.List.{list_any, position}
use Rattle.std.specs.Str.{bytes_eq}
use Rattle.nd_time.specs.Limits.{max_depth, max_depth_v1, max_locations, max_locations_v8, max_locations_v5}
use Rattle.nd_time.specs.declared.order.TimeOrder.{TimeOrder}
use Rattle.nd_graph.specs.declared.op.Op.{Op}
use Rattle.nd_graph.specs.declared.graph.Vertex.{Vertex}
use Rattle.nd_graph.specs.declared.graph.Edge.{Edge}
use Rattle.nd_graph.specs.declared.draft.DraftEdge.{DraftEdge}
use Rattle.nd_graph.specs.declared.fault.GraphFault.{GraphFault}
use Rattle.nd_graph.specs.declared.fault.GraphFault.TheVariants.{DoubleName, UnknownName, BadPort, DepthMismatch, TooLarge}
use Rattle.nd_graph.specs.Operators.{facts, stands_in_loop, leads_in}
use Rattle.nd_graph.specs.Graph.{Dataflow, graph_of, action_of, depth_past_vertex, location_count, names}
use Rattle.nd_graph.specs.Draft.{Draft, every}

-- ---- names

-- some name occurs twice
abbrev pub has_double : List (List ℕ) → Bool
has_double [] = false
has_double (name ∷ names) = list_any (bytes_eq name) names || has_double names

-- all names of a graph as it is written; vertices and edges share one namespace
abbrev pub written_names : List Vertex → List DraftEdge → List (List ℕ)
written_names vertices edges = map (λ v. v.name) vertices ++ map (λ e. e.name) edges

abbrev pub has_double_name : List Vertex → List DraftEdge → Bool
has_double_name vertices edges = has_double (written_names vertices edges)

-- the location of the vertex that an end of an edge names, if there is one
unfoldable pub end_of : List Vertex → Option (List ℕ) → Option ℕ
end_of vertices end = option_and_then (λ name. position (λ v. bytes_eq name v.name) vertices) end

-- the edge with its ends as locations, if they are vertices
unfoldable pub located : List Vertex → DraftEdge → Option Edge
located vertices e =
    option_and_then (λ from. option_map
    (λ to. record { name = e.name; from = from; port = e.port; to = to; route = e.route })
    (end_of vertices e.to)) (end_of vertices e.from)

-- the edges with their ends as locations, or the error: a name occurs twice, or an end is not a vertex
unfoldable pub edges_between : List Vertex → List DraftEdge → Result (List Edge) GraphFault
edges_between vertices edges =
    if has_double_name vertices edges then Err DoubleName
    else ok_or (every (located vertices) edges) UnknownName

-- ---- ports

-- the number of output ports of an operator
abbrev pub ports : Op → ℕ
ports o = (facts o).ports

-- whether the operator receives values from outside
abbrev pub is_input : Op → Bool
is_input o = (facts o).fed

-- the number of output ports of the vertex at a location
abbrev pub ports_at : List Vertex → ℕ → ℕ
ports_at vertices l = option_map_or (λ v. ports v.op) (slice_get vertices l) 0

-- whether the vertex at a location is an input
abbrev pub is_input_at : List Vertex → ℕ → Bool
is_input_at vertices l = option_map_or (λ v. is_input v.op) (slice_get vertices l) false

-- the source of an edge has no such output port, or its target is an input
unfoldable pub has_bad_port : List Vertex → Edge → Bool
has_bad_port vertices e = nat_le (ports_at vertices e.from) e.port || is_input_at vertices e.to

-- ---- depths

-- an input is inside a loop, or an egress or a feedback is outside all loops
abbrev pub is_misplaced_at : Op → ℕ → Bool
is_misplaced_at o depth = (is_input o && nat_lt 0 depth) || (stands_in_loop (action_of o) && depth == 0)

abbrev pub is_misplaced : Vertex → Bool
is_misplaced v = is_misplaced_at v.op v.depth

-- the depth of the vertex at a location
abbrev pub vertex_depth : List Vertex → ℕ → ℕ
vertex_depth vertices l = option_map_or (λ v. v.depth) (slice_get vertices l) 0

-- the depth of an edge differs from that of its target
unfoldable pub misses_depth : List Vertex → Edge → Bool
misses_depth vertices e = not (depth_past_vertex vertices e.from == vertex_depth vertices e.to)

unfoldable pub has_depth_mismatch : Dataflow → Bool
has_depth_mismatch g = list_any is_misplaced g.vertices || list_any (misses_depth g.vertices) g.edges

-- ---- sizes

-- a vertex is deeper than the limit, or an ingress is at the limit
abbrev pub is_too_deep : ℕ → Vertex → Bool
is_too_deep most v = nat_lt most v.depth || (leads_in (action_of v.op) && v.depth == most)

-- an edge is deeper than the limit
unfoldable pub leads_too_deep : ℕ → List Vertex → Edge → Bool
leads_too_deep most vertices e = nat_lt most (depth_past_vertex vertices e.from)

-- there are more than `many` locations, or a location is deeper than `most`
unfoldable pub is_too_large : ℕ → ℕ → Dataflow → Bool
is_too_large most many g =
    nat_lt many (location_count g)
    || (list_any (is_too_deep most) g.vertices || list_any (leads_too_deep most g.vertices) g.edges)

-- ---- all checks

-- the first error of a graph whose names are resolved, for these limits of depth and of locations
unfoldable pub fault_of : ℕ → ℕ → Dataflow → Option GraphFault
fault_of most many g =
    if list_any (has_bad_port g.vertices) g.edges then Some BadPort else
    (if has_depth_mismatch g then Some DepthMismatch else
    (if is_too_large most many g then Some TooLarge else None))

-- the graph, or its first error
unfoldable pub judged : ℕ → ℕ → Dataflow → Result Dataflow GraphFault
judged most many g = option_map_or (λ e. Err e) (fault_of most many g) (Ok g)

-- the same, once the ends of the edges are looked up
abbrev pub judged_with : ℕ → ℕ → TimeOrder → List Vertex → Result (List Edge) GraphFault → Result Dataflow GraphFault
judged_with most many order vertices (Ok edges) = judged most many (graph_of order vertices edges)
judged_with most many order vertices (Err e) = Err e

-- the graph that a draft describes, or the error with the least number, for these limits of depth and of locations
unfoldable pub checked_within : ℕ → ℕ → Draft → Result Dataflow GraphFault
checked_within most many d = judged_with most many d.order d.vertices (edges_between d.vertices d.edges)

-- the same, for the current limits
abbrev pub checked : Draft → Result Dataflow GraphFault
checked = checked_within max_depth max_locations

-- the same, for the limits of the versions 6 to 8
abbrev pub checked_v8 : Draft → Result Dataflow GraphFault
checked_v8 = checked_within max_depth max_locations_v8

-- the same, for the limits of the versions 2 to 5
abbrev pub checked_v5 : Draft → Result Dataflow GraphFault
checked_v5 = checked_within max_depth max_locations_v5

-- the same, for the limits of version 1
abbrev pub checked_v1 : Draft → Result Dataflow GraphFault
checked_v1 = checked_within max_depth_v1 max_locations_v5

-- ---- what holds of a checked graph

-- both ends of an edge are vertices
pub record JoinsVertices (vertices : List Vertex) (e : Edge) : Type 0 where
  pub from : e.from < length vertices
  pub to : e.to < length vertices

-- no name occurs twice, each end of an edge is a vertex, and there is no error
pub record IsFaultless (g : Dataflow) : Type 0 where
  pub once : has_double (names g) ≡ false
  pub joined : All (JoinsVertices g.vertices) g.edges
  pub faultless : fault_of max_depth max_locations g ≡ None
