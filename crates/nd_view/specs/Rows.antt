-- Numbers of pointstamps in rows: one list for each location.
use Rattle.std.specs.Prelude.{◌≡◌, ◌<◌, ℕ, zero, suc, List, [], ◌∷◌, flat_map, map}
use Rattle.std.proofs.Common.{get_or}
use Rattle.std.specs.FinMap.{put}
use Rattle.nd_map.specs.Counts.{keys_of}
use Rattle.nd_map.specs.Listed.{IsListed}
use Rattle.nd_paths.specs.Point.{point_cmp}
use Rattle.nd_paths.specs.declared.point.Pointstamp.{Pointstamp}
use Rattle.nd_view.specs.declared.rows.Row.{Row as Placed}

abbrev pub Row : Type 0
Row = List (Pointstamp × ℕ)

-- the entries of all rows, row after row
abbrev pub joined : List Row → Row
joined rows = flat_map (λ es. es) rows

-- a row of the list, empty if the list has no such row
abbrev pub row_of : List Row → ℕ → Row
row_of rows r = get_or rows r []

-- the pointstamps of each row
abbrev pub points_by_row : List Row → List (List Pointstamp)
points_by_row rows = map (λ es. keys_of es) rows

-- the new rows have the entries of the old ones, but the number n in entry k of row r
abbrev pub IsPutIn : ℕ → ℕ → ℕ → List Row → List Row → Type 0
IsPutIn r k n old new =
    (d : Pointstamp × ℕ) → joined new ≡ put point_cmp (get_or (row_of old r) k d).0 n (joined old)

-- ---- rows with their locations
-- each entry is at the location
abbrev pub AreAt : ℕ → Row → Type 0
AreAt l [] = Unit {0}
AreAt l (e ∷ es) = (e.0.location ≡ l) × AreAt l es

module _ {A : Type 0} where
  -- the entries of all rows, row after row
  abbrev pub all_of : List (Placed A) → Row
  all_of rs = joined (map (λ r. r.numbers) rs)

  -- each row is of a location above this one
  abbrev pub AreAbove : ℕ → List (Placed A) → Type 0
  AreAbove l [] = Unit {0}
  AreAbove l (r ∷ rs) = (l < r.location) × AreAbove l rs

  -- the rows are in rising order of their locations, and each lists entries at its location
  abbrev pub AreRows : List (Placed A) → Type 0
  AreRows [] = Unit {0}
  AreRows (r ∷ rs) = AreAt r.location r.numbers × (IsListed point_cmp r.numbers × (AreAbove r.location rs × AreRows rs))

  -- row i is that of the location, and the rows before it are of lower locations
  abbrev pub IsRowOf : ℕ → List (Placed A) → ℕ → Type 0
  IsRowOf l [] i = ⊥
  IsRowOf l (r ∷ rs) zero = r.location ≡ l
  IsRowOf l (r ∷ rs) (suc i) = (r.location < l) × IsRowOf l rs i

  -- no row is of the location; row i is where its row would be inserted
  abbrev pub IsGapFor : ℕ → List (Placed A) → ℕ → Type 0
  IsGapFor l [] zero = Unit {0}
  IsGapFor l [] (suc i) = ⊥
  IsGapFor l (r ∷ rs) zero = l < r.location
  IsGapFor l (r ∷ rs) (suc i) = (r.location < l) × IsGapFor l rs i
