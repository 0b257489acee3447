use Rattle.std.proofs.Common.{◌≡◌, ◌++◌, map, drop, option_map}
use Rattle.serde_json.specs.View.{view}
use Rattle.nd_graph.specs.Draft.{every}
use Rattle.nd_json.specs.Forms.{small}
use Rattle.rewind_forms.proofs.numbers.processors_of.Given as goal

abbrev pub invariant-loop-item : goal.invariant-loop-item
invariant-loop-item l = every small (map view l.items) ≡ option_map (λ ns. l.processors ++ ns) (every small (map view (drop l.item-index l.items)))
