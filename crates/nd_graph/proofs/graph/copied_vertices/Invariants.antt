use Rattle.std.proofs.Common.{◌≡◌, take}
use Rattle.nd_graph.proofs.graph.copied_vertices.Given as goal

-- the vertices copied so far
abbrev pub invariant-loop-vertex : goal.invariant-loop-vertex
invariant-loop-vertex g l = l.copied.items ≡ take l.vertex-index l.vertices
