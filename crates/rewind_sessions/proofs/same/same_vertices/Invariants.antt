use Rattle.std.proofs.Common.{◌≡◌, ◌<◌, ℕ, get_or}
use Rattle.nd_graph.specs.declared.graph.Vertex.{Vertex}
use Rattle.rewind_sessions.proofs.same.same_vertices.Given as goal

abbrev pub invariant-loop-i : goal.invariant-loop-i
invariant-loop-i l = (k : ℕ) (d : Vertex) → k < l.i → get_or l.one k d ≡ get_or l.other k d
