-- An edit of the value at a key.
use Rattle.std.specs.Prelude.{List, Option, None, Some}
use Rattle.std.specs.declared.cmp.Ordering.{Ordering}
use Rattle.std.specs.FinMap.{put}
use Rattle.nd_map.specs.Listed.{without}
use Rattle.nd_map.specs.declared.tree.Edit.{Edit}
use Rattle.nd_map.specs.declared.tree.Edit.TheVariants.{Keep, Put, Remove}

-- there is an edit exactly if there is a value, and P holds of the two
abbrev pub IsSaid : {X : Type 0} → (X → Edit X → Type 0) → Option X → Option (Edit X) → Type 0
IsSaid P None None = Unit {0}
IsSaid P None (Some e) = ⊥
IsSaid P (Some v) None = ⊥
IsSaid P (Some v) (Some e) = P v e

-- the entries after an edit at the key k; without an edit the key had no value, and gets the value v
abbrev pub edited : {K X : Type 0} → (K → K → Ordering) → K → X → Option (Edit X) → List (K × X) → List (K × X)
edited R k v None es = put R k v es
edited R k v (Some Keep) es = es
edited R k v (Some (Put w)) es = put R k w es
edited R k v (Some Remove) es = without R k es
