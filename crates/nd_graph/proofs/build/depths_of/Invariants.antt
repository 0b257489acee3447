use Rattle.std.proofs.Common.{◌≡◌, ◌++◌, map, take}
use Rattle.nd_graph.specs.Graph.{depth_past_vertex}
use Rattle.nd_graph.proofs.build.depths_of.Given as goal

abbrev pub invariant-loop-vertex : goal.invariant-loop-vertex
invariant-loop-vertex g l = l.depths.items ≡ map (λ v. v.depth) (take l.vertex-index l.vertices)

abbrev pub invariant-loop-edge : goal.invariant-loop-edge
invariant-loop-edge g l = l.depths.items ≡ map (λ v. v.depth) l.vertices ++ map (λ e. depth_past_vertex l.vertices e.from) (take l.edge-index l.edges)
