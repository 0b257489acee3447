use Rattle.std.proofs.Common.{◌≡◌, ◌++◌, length, map, drop, option_map}
use Rattle.serde_json.specs.View.{view}
use Rattle.nd_json.specs.Forms.{small}
use Rattle.nd_graph.specs.Draft.{every}
use Rattle.rewind_forms.proofs.numbers.counters_of.Given as goal

abbrev pub invariant-loop-item : goal.invariant-loop-item
invariant-loop-item l =
    (every small (map view l.items) ≡ option_map (λ ns. l.counters.items ++ ns) (every small (map view (drop l.item-index l.items))))
    × (length l.counters.items ≡ l.item-index)
