-- The entries of a part of a view.
use Rattle.std.proofs.Common.{◌≡◌, ◌≢◌, ◌<◌, ℕ, ℤ, pos, length, get_or, Some, ap, sym, ◌∙◌}
use Rattle.std.specs.FinMap.{find}
use Rattle.nd_map.specs.Entries.{find-index}
use Rattle.nd_paths.specs.Point.{point_cmp, point_total}
use Rattle.nd_paths.specs.declared.point.Pointstamp.{Pointstamp}
use Rattle.nd_delta.specs.Delta.{DeltaValue, at, entries, or_zero, at-entries, sorted-entries, some-entry}
use Rattle.nd_view.specs.View.{IsPartWhere}

-- the point of an entry has an integer
pub index_some : (m : DeltaValue) (k : ℕ) (d : Pointstamp × ℤ) → k < length (entries m) → at m (get_or (entries m) k d).0 ≢ pos 0
index_some m k d lt e =
    let q = (get_or (entries m) k d).0 in
    let found : find point_cmp q (entries m) ≡ Some (get_or (entries m) k d).1 = find-index point_cmp point_total (entries m) k d (sorted-entries m) lt in
    some-entry m q (get_or (entries m) k d).1 found (sym (ap or_zero found) ∙ at-entries m q ∙ e)

-- each entry of the part of v at the points that satisfy P is at such a point
pub part-entry : (P : Pointstamp → Type 0) (v f : DeltaValue) → IsPartWhere P v f → (k : ℕ) (d : Pointstamp × ℤ) → k < length (entries f) → P (get_or (entries f) k d).0
part-entry P v f part k d lt = part.only (get_or (entries f) k d).0 (index_some f k d lt)
