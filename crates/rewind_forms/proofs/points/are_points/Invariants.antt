use Rattle.std.proofs.Common.{◌≡◌, map, drop}
use Rattle.serde_json.specs.View.{view}
use Rattle.rewind_forms.specs.Forms.{are_read, listed_point}
use Rattle.rewind_forms.proofs.points.are_points.Given as goal

abbrev pub invariant-loop-item : goal.invariant-loop-item
invariant-loop-item l = are_read listed_point (map view l.items) ≡ are_read listed_point (map view (drop l.item-index l.items))
