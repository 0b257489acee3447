use Rattle.std.proofs.Common.{◌≡◌, ◌++◌, map, drop, option_map}
use Rattle.serde_json.specs.View.{view}
use Rattle.nd_graph.specs.Draft.{every}
use Rattle.rewind_forms.specs.Places.{placed_point}
use Rattle.rewind_forms.proofs.points.points_of.Given as goal

abbrev pub invariant-loop-item : goal.invariant-loop-item
invariant-loop-item l = every (placed_point l.graph) (map view l.items) ≡ option_map (λ ns. l.points ++ ns) (every (placed_point l.graph) (map view (drop l.item-index l.items)))
