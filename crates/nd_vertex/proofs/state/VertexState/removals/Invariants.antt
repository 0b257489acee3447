use Rattle.std.proofs.Common.{◌≡◌, ◌++◌, map}
use Rattle.nd_map.specs.Counts.{entries}
use Rattle.nd_vertex.proofs.RemovalLemmas.{gone, removed}
use Rattle.nd_vertex.proofs.state.VertexState.removals.Given as goal

-- the edits so far, followed by those of the remaining entries
abbrev pub invariant-loop-key : goal.invariant-loop-key
invariant-loop-key g l = l.edits.items ++ map gone l.key-iterator ≡ removed l.time (entries l.self)
