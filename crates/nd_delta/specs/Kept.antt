-- What holds of the entries that a change stores.
use Rattle.std.specs.Prelude.{◌≢◌, ◌≤◌, ℤ, pos, unsigned_abs, List}
use Rattle.nd_time.specs.Limits.{max_count}
use Rattle.nd_map.specs.Kept as stored
use Rattle.nd_paths.specs.Point.{point_cmp}
use Rattle.nd_paths.specs.declared.point.Pointstamp.{Pointstamp}

-- an integer other than 0, within the limit
pub record IsCount (z : ℤ) : Type 0 where
  pub some : z ≢ pos 0
  pub within : unsigned_abs z ≤ max_count

-- entries in the order of listing, each with such an integer
abbrev pub IsKept : List (Pointstamp × ℤ) → Type 0
IsKept es = stored.IsKept point_cmp (λ _. IsCount) es
