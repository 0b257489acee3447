-- Entries as they are stored for a map without zeros: in the order of listing, each number satisfying a condition.
use Rattle.std.specs.Prelude.{List, IfSome}
use Rattle.std.specs.declared.cmp.Ordering.{Ordering}
use Rattle.std.specs.FinMap.{find}
use Rattle.nd_map.specs.Listed.{IsListed}

-- each number satisfies P, which may depend on the key
abbrev pub EachIs : {K X : Type 0} → (K → K → Ordering) → (K → X → Type 0) → List (K × X) → Type 0
EachIs {K} R P es = (q : K) → IfSome (find R q es) (P q)

-- entries in the order of listing, each number of which satisfies P
pub record IsKept {K X : Type 0} (R : K → K → Ordering) (P : K → X → Type 0) (es : List (K × X)) : Type 0 where
  pub listed : IsListed R es
  pub numbers : EachIs R P es
