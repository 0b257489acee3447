use Rattle.std.proofs.Common.{◌≡◌, map, drop}
use Rattle.serde_json.specs.View.{view}
use Rattle.nd_json.specs.Forms.{small}
use Rattle.rewind_forms.specs.Forms.{are_read}
use Rattle.rewind_forms.proofs.numbers.are_small.Given as goal

abbrev pub invariant-loop-item : goal.invariant-loop-item
invariant-loop-item l = are_read small (map view l.items) ≡ are_read small (map view (drop l.item-index l.items))
