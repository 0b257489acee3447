-- Dataflow graphs: locations, their depths, and the arcs between them.
-- (Naiad, SOSP 2013, section 2.1.)
use Rattle.std.specs.Prelude.{◌≡◌, ℕ, ◌+◌, ◌-◌, ◌<◌, ◌≤◌, All, List, [], ◌∷◌, ◌++◌, length, map, slice_index, slice_get}
use Rattle.std.specs.Option.{option_map_or}
use Rattle.nd_time.specs.Limits.{max_depth, max_locations}
use Rattle.nd_time.specs.declared.order.TimeOrder.{TimeOrder}
use Rattle.nd_time.specs.Time.{ingress_of, egress_of, feedback_of}
use Rattle.nd_graph.specs.declared.op.Op.{Op}
use Rattle.nd_graph.specs.declared.op.Op.TheVariants as op
use Rattle.nd_graph.specs.Operators.{facts}
use Rattle.nd_graph.specs.declared.op.Action.{Action}
use Rattle.nd_graph.specs.declared.op.Action.TheVariants.{Identity, Ingress, Egress, Feedback}
use Rattle.nd_graph.specs.declared.graph.Vertex.{Vertex}
use Rattle.nd_graph.specs.declared.graph.Edge.{Edge}
use Rattle.nd_graph.specs.declared.graph.Arc.{Arc}

-- a graph: the order of its timestamps, and its vertices and its edges, each in order of appearance
pub record Dataflow : Type 0 where
  pub order : TimeOrder
  pub vertices : List Vertex
  pub edges : List Edge

abbrev pub graph_of : TimeOrder → List Vertex → List Edge → Dataflow
graph_of order vertices edges = record { order = order; vertices = vertices; edges = edges }

-- what a vertex with this operator does to the times that pass through it
abbrev pub action_of : Op → Action
action_of o = (facts o).action

-- what an action does to loop counters
abbrev pub acted : Action → List ℕ → List ℕ
acted Identity counters = counters
acted Ingress counters = ingress_of counters
acted Egress counters = egress_of counters
acted Feedback counters = feedback_of counters

-- the depth after an action
abbrev pub depth_past : Action → ℕ → ℕ
depth_past Identity depth = depth
depth_past Ingress depth = depth + 1
depth_past Egress depth = depth - 1
depth_past Feedback depth = depth

-- the number of locations; vertices are numbered first, then edges
abbrev pub location_count : Dataflow → ℕ
location_count g = length g.vertices + length g.edges

-- the names of all locations: those of the vertices, then those of the edges
abbrev pub names : Dataflow → List (List ℕ)
names g = map (λ v. v.name) g.vertices ++ map (λ e. e.name) g.edges

-- the action of the vertex at a location
abbrev pub action_at : List Vertex → ℕ → Action
action_at vertices l = option_map_or (λ v. action_of v.op) (slice_get vertices l) Identity

-- the depth after the vertex at a location, which is the depth of the edges that leave it
abbrev pub depth_past_vertex : List Vertex → ℕ → ℕ
depth_past_vertex vertices l = option_map_or (λ v. depth_past (action_of v.op) v.depth) (slice_get vertices l) 0

-- the depth of each location
abbrev pub depths : Dataflow → List ℕ
depths g = map (λ v. v.depth) g.vertices ++ map (λ e. depth_past_vertex g.vertices e.from) g.edges

-- the two arcs of each edge, if the first edge is location l: from its source, with the source's action, and to its target
abbrev pub arcs_from : List Vertex → ℕ → List Edge → List Arc
arcs_from vertices l [] = []
arcs_from vertices l (e ∷ edges) =
    record { from = e.from; action = action_at vertices e.from; to = l }
    ∷ record { from = l; action = Identity; to = e.to }
    ∷ arcs_from vertices (l + 1) edges

-- two arcs per edge: from its source to the edge, with the source's action, and from the edge to its target, with no action
abbrev pub arcs : Dataflow → List Arc
arcs g = arcs_from g.vertices (length g.vertices) g.edges

-- an action leads from depth d to depth e
abbrev pub LeadsTo : Action → ℕ → ℕ → Type 0
LeadsTo Identity d e = e ≡ d
LeadsTo Ingress d e = e ≡ d + 1
LeadsTo Egress d e = d ≡ e + 1
LeadsTo Feedback d e = (0 < d) × (e ≡ d)

-- an arc joins two locations, and its action leads from the depth of the first to the depth of the second
pub record ArcAgrees (depths : List ℕ) (arc : Arc) : Type 0 where
  pub from : arc.from < length depths
  pub to : arc.to < length depths
  pub depth : LeadsTo arc.action (slice_index depths arc.from) (slice_index depths arc.to)

-- what holds of a checked graph, and of the depths and arcs stored with it
pub record IsGraph (g : Dataflow) (kept_depths : List ℕ) (kept_arcs : List Arc) : Type 0 where
  pub depths_kept : kept_depths ≡ depths g
  pub arcs_kept : kept_arcs ≡ arcs g
  pub agree : All (ArcAgrees (depths g)) (arcs g)
  pub shallow : All (λ d. d ≤ max_depth) (depths g)
  pub few : location_count g ≤ max_locations

-- the operator of the vertex at a location; any other location counts as a sink
abbrev pub op_at : Dataflow → ℕ → Op
op_at g l = option_map_or (λ v. v.op) (slice_get g.vertices l) op.Sink
