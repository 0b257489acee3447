-- The changes of a view as a JSON value.
use Rattle.std.specs.Prelude.{List, [], ◌∷◌, map}
use Rattle.serde_json.specs.Data.{Data}
use Rattle.nd_state_json.specs.StateText.{row, natural, whole}
use Rattle.nd_timeline.specs.declared.changed.Changed.{Changed}

-- [position,n], n being the entry there
abbrev pub changed_data : Changed → Data
changed_data c = row (natural c.position ∷ whole c.entry ∷ [])

-- all changes, in their order
abbrev pub changes_data : List Changed → Data
changes_data cs = row (map changed_data cs)
