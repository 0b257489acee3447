use Rattle.std.proofs.Common.{◌≡◌, map, drop}
use Rattle.serde_json.specs.View.{view}
use Rattle.rewind_forms.specs.Places.{listed_location}
use Rattle.rewind_forms.specs.Forms.{are_read}
use Rattle.rewind_forms.proofs.points.are_known.Given as goal

abbrev pub invariant-loop-item : goal.invariant-loop-item
invariant-loop-item l = are_read (listed_location l.graph) (map view l.items) ≡ are_read (listed_location l.graph) (map view (drop l.item-index l.items))
