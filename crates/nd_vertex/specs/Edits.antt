-- Changes of the state of a vertex: of one item, and of several items, each at most once.
use Rattle.std.specs.Prelude.{◌≡◌, ◌≢◌, ℤ, pos, All, Bool, cond, List, [], ◌∷◌, map, Option, Some, None}
use Rattle.std.specs.List.{IsDistinct}
use Rattle.std.specs.Ordering.{eq_by_cmp}
use Rattle.nd_map.specs.Counts.{at, set, or_else}
use Rattle.nd_vertex.specs.Items.{Items, item_cmp, item_total}
use Rattle.nd_vertex.specs.Table.{is_zero}
use Rattle.nd_vertex.specs.declared.key.ItemKey.{ItemKey}
use Rattle.nd_vertex.specs.declared.effect.ItemEdit.{ItemEdit}

-- the number of an item, or None if the item is not there
abbrev pub item_of : Items → ItemKey → Option ℤ
item_of m k = cond (is_zero (at m k)) None (Some (at m k))

-- the number of an item, 0 if the item is not there
abbrev pub number_of : Option ℤ → ℤ
number_of n = or_else (pos 0) n

-- the items with another number for one item, or without that item
abbrev pub with_item : Items → ItemKey → Option ℤ → Items
with_item m k n = set item_total m k (number_of n)

-- the items after an edit, if the edit is wanted
abbrev pub edited_if : Bool → Items → ItemEdit → Items
edited_if wanted m e = cond wanted (with_item m e.key e.new) m

-- the items after several edits, one after another
abbrev pub edited : Items → List ItemEdit → Items
edited m [] = m
edited m (e ∷ es) = edited (with_item m e.key e.new) es

abbrev pub keys : List ItemEdit → List ItemKey
keys es = map (λ e. e.key) es

-- the inverse of an edit
abbrev pub turned : ItemEdit → ItemEdit
turned e = record { key = e.key; old = e.new; new = e.old }

-- the edits apply to the items: the items have the old numbers, no new number is 0, and no item is edited twice
pub record CanEdit (m : Items) (es : List ItemEdit) : Type 0 where
  pub olds : All (λ e. item_of m e.key ≡ e.old) es
  pub news : All (λ e. e.new ≢ Some (pos 0)) es
  pub once : IsDistinct (eq_by_cmp item_cmp) (keys es)

-- edits that lead from items m to items n, each of which changes its item
pub record LeadsTo (m : Items) (es : List ItemEdit) (n : Items) : Type 0 where
  pub can_edit : CanEdit m es
  pub changes : All (λ e. e.old ≢ e.new) es
  pub edited_is : edited m es ≡ n

-- the edits, or their inverses
abbrev pub directed : Bool → List ItemEdit → List ItemEdit
directed back es = map (λ e. cond back (turned e) e) es
