use Rattle.std.proofs.Common.{◌≡◌, ◌==◌, filter, length}
use Rattle.nd_graph.proofs.arcs.ArcsFromIterator.next.Given as goal

abbrev pub invariant-rest : goal.invariant-rest
invariant-rest l = filter (λ arc. arc.from == l.self-inside.location) l.self-inside.rest.now ≡ l.fn.self

abbrev pub decreases-rest : goal.decreases-rest
decreases-rest l = length l.self-inside.rest.now
