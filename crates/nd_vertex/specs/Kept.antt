-- What holds of the entries that a vertex stores.
use Rattle.std.specs.Prelude.{◌≢◌, ℤ, pos, FitsSigned, List}
use mir.Syntax.{w64}
use Rattle.nd_map.specs.Kept as stored
use Rattle.nd_vertex.specs.Items.{item_cmp}
use Rattle.nd_vertex.specs.declared.key.ItemKey.{ItemKey}

-- a number other than 0 that fits 64 bits, of an item that fits 64 bits
pub record IsNumber (k : ItemKey) (z : ℤ) : Type 0 where
  pub some : z ≢ pos 0
  pub fits : FitsSigned w64 z
  pub item : FitsSigned w64 k.item

-- entries in the order of listing, each with such a number
abbrev pub IsKept : List (ItemKey × ℤ) → Type 0
IsKept es = stored.IsKept item_cmp IsNumber es
