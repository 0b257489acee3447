use Rattle.std.proofs.Common.{◌∙◌, ap, map, sym, Some, option_map}
use Rattle.serde_json.specs.View.{view}
use Rattle.nd_json.specs.Forms.{list, listed}
use Rattle.nd_json.proofs.Keys.{listed-items_of}
use Rattle.nd_json.proofs.element.list.Goals as goal

pub returns-in-Some : goal.returns-in-Some
unfolding list
returns-in-Some c =
    rw (c.as_slice.ensures.value) (ap Some (sym (listed-items_of (map view c.in-Some.items.now.items)))
    ∙ ap (λ o. option_map listed o) c.in-Some.ensures)

pub returns-in-None : goal.returns-in-None
unfolding list
returns-in-None c = ap (λ o. option_map listed o) c.in-None.ensures
