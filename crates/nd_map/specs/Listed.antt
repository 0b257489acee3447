-- Lists of entries in the order of their keys.
use Rattle.std.specs.Prelude.{not, List, T}
use Rattle.std.specs.declared.cmp.Ordering.{Ordering}
use Rattle.std.specs.Ordering.{eq_by_cmp}
use Rattle.std.specs.FinMap.{is_sorted}
use Rattle.std.specs.FinMap.Entries.{where_key}

module _ {K X : Type 0} (R : K → K → Ordering) where
  -- keys strictly increase
  abbrev pub IsListed : List (K × X) → Type 0
  IsListed es = T (is_sorted R es)

  -- the entries except the one at a key
  abbrev pub without : K → List (K × X) → List (K × X)
  without k es = where_key R (λ q. not (eq_by_cmp R k q)) es
