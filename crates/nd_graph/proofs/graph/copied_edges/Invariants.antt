use Rattle.std.proofs.Common.{◌≡◌, take}
use Rattle.nd_graph.proofs.graph.copied_edges.Given as goal

-- the edges copied so far
abbrev pub invariant-loop-edge : goal.invariant-loop-edge
invariant-loop-edge g l = l.copied.items ≡ take l.edge-index l.edges
