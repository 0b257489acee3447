-- Maps held in a list or in a tree, and what their iterators have not yet returned.
use Rattle.std.specs.Prelude.{List}
use Rattle.nd_map.specs.declared.growing.Held.{Held}
use Rattle.nd_map.specs.declared.growing.Held.TheVariants.{Few, Many}
use Rattle.nd_map.specs.declared.growing.Left.{Left}
use Rattle.nd_map.specs.declared.growing.Left.TheVariants as left
use Rattle.nd_map.specs.declared.growing.LeftBetween.{LeftBetween}
use Rattle.nd_map.specs.declared.growing.LeftBetween.TheVariants as part

-- the entries in the order of their keys, held in a list or in a tree
abbrev pub held_in : {K V A : Type 0} → Held K V A → List (K × V)
held_in (Few list) = list
held_in (Many tree) = tree

-- the entries that an iterator has not yet returned
abbrev pub left_in : {K V : Type 0} → Left K V → List (K × V)
left_in (left.Few entries) = entries.now
left_in (left.Many entries) = entries

-- the same for an iterator over a range of keys
abbrev pub left_between : {K V : Type 0} → LeftBetween K V → List (K × V)
left_between (part.Few entries) = entries.now
left_between (part.Many entries) = entries
