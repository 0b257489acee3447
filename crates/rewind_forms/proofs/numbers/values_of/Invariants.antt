use Rattle.std.proofs.Common.{◌≡◌, ◌++◌, map, drop, option_map}
use Rattle.serde_json.specs.View.{view}
use Rattle.nd_graph.specs.Draft.{every}
use Rattle.nd_json.specs.Forms.{integer}
use Rattle.rewind_forms.proofs.numbers.values_of.Given as goal

abbrev pub invariant-loop-item : goal.invariant-loop-item
invariant-loop-item l = every integer (map view l.items) ≡ option_map (λ ns. l.values ++ ns) (every integer (map view (drop l.item-index l.items)))
