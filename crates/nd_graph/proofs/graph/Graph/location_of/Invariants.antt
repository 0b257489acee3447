use Rattle.std.proofs.Common.{◌≡◌, ℕ, ◌<◌, [], false, get_or}
use Rattle.std.specs.Str.{bytes_eq}
use Rattle.nd_graph.specs.Graph.{names}
use Rattle.nd_graph.proofs.graph.Graph.location_of.Given as goal

abbrev pub invariant-loop-location : goal.invariant-loop-location
invariant-loop-location g l = (k : ℕ) → k < l.location → bytes_eq l.name (get_or (names l.self) k []) ≡ false
