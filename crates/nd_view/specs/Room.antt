-- Replacing an integer without a need for memory, and adding the entries of a change.
use Rattle.std.specs.Prelude.{◌≡◌, ◌≤◌, ℤ, pos, ◌<ℤ◌, ◌+ℤ◌, ◌-ℤ◌, Bool, cond, List, unsigned_abs}
use Rattle.std.specs.FinMap.{find}
use Rattle.nd_time.specs.Limits.{max_count}
use Rattle.nd_paths.specs.Point.{point_cmp}
use Rattle.nd_paths.specs.declared.point.Pointstamp.{Pointstamp}
use Rattle.nd_delta.specs.Delta.{DeltaValue, at, or_zero}

-- replacing `old` by `new` takes no memory: no entry is added to the map, and no point becomes positive
pub record IsWithinRoom (old new : ℤ) : Type 0 where
  pub absent : old ≡ pos 0 → new ≡ pos 0
  pub positive : pos 0 <ℤ new → pos 0 <ℤ old

-- the integer of the point q among these entries; 0 if it has none
abbrev pub among : List (Pointstamp × ℤ) → Pointstamp → ℤ
among es q = or_zero (find point_cmp q es)

-- each integer is within the limit of the program
abbrev pub AreWithin : List (Pointstamp × ℤ) → Type 0
AreWithin es = (q : Pointstamp) → unsigned_abs (among es q) ≤ max_count

-- n is m with the entries added, or with the entries subtracted if `minus` is true
abbrev pub IsAdded : Bool → List (Pointstamp × ℤ) → DeltaValue → DeltaValue → Type 0
IsAdded minus es m n = (q : Pointstamp) → at n q ≡ cond minus (at m q -ℤ among es q) (at m q +ℤ among es q)
