-- Walks over rows, entry by entry: entries that are counted, and numbers that are set right.
use lib.Seq.{get_or-take, length-take-le}
use Rattle.std.proofs.Common.{◌≡◌, ◌<◌, ◌≤◌, ◌+◌, ℕ, zero, suc, pos, T, List, [], ◌∷◌, length, get_or, take, Option, Some, None, refl, sym, ap, subst, ◌∙◌, arith}
use Rattle.std.specs.FinMap.Entries.{below_all}
use Rattle.std.specs.Prelude.{◌<ℤ◌}
use Rattle.std.specs.FinMap.{find, put}
use Rattle.std.proofs.lemmas.List.{get_or_default}
use Rattle.nd_map.specs.Cases.{first, not_zero, second}
use Rattle.nd_map.specs.Entries.{found_at}
use Rattle.nd_map.specs.Listed.{IsListed}
use Rattle.nd_graph.specs.Graph.{Dataflow}
use Rattle.nd_paths.specs.Point.{point_cmp, point_exact}
use Rattle.nd_paths.specs.declared.point.Pointstamp.{Pointstamp}
use Rattle.nd_delta.specs.Delta.{DeltaValue, at}
use Rattle.nd_view.specs.Counting.{ArePositive}
use Rattle.nd_view.specs.Kept.{AreKept, IsEarlier, IsHeldAt, IsKeptAt}
use Rattle.nd_view.specs.Rows.{Row, joined, row_of, points_by_row, IsPutIn}
use Rattle.nd_view.specs.View.{IsPrecursor}
use Rattle.nd_view.proofs.Early.{IsNext, entry_found, key_at, many_keys, next_key}
use Rattle.nd_view.proofs.Parts.{IsCountUpTo, count_skip, count_take}
use Rattle.nd_view.proofs.RowLists.{an_entry, both}
use Rattle.nd_view.proofs.Runs.{onward}
use Rattle.nd_view.proofs.Shifts.{IsMovedUpTo, waiting_on, moved_none, moved_skip, moved_put, moved_all}
use Rattle.nd_view.proofs.Starts.{all_points, start, start-first, entry_is, entry_within, keys, last_row, next_row, same_keys}

module _ (rows : List Row) (listed : IsListed point_cmp (joined rows)) (r k : ℕ) (e : Pointstamp × ℕ) (lt : k < length (row_of rows r)) (is : e ≡ get_or (row_of rows r) k e) where
  -- the next point of all points
  pub row_next : IsNext (all_points (points_by_row rows)) (start (points_by_row rows) r + k) e.0
  row_next =
      let ps = points_by_row rows in
      next_key (joined rows) (all_points ps) (keys rows ps refl) listed (start ps r + k) e (entry_within rows ps refl r k lt) (entry_is rows ps refl r k e lt is)

  -- what a look-up finds
  pub row_found : find point_cmp e.0 (joined rows) ≡ Some e.1
  row_found =
      let ps = points_by_row rows in
      entry_found (joined rows) (start ps r + k) e listed (entry_within rows ps refl r k lt) (entry_is rows ps refl r k e lt is)

  pub row_positive : (m : DeltaValue) → ArePositive m (joined rows) → pos 0 <ℤ at m e.0
  row_positive m positive = subst (IsHeldAt m e.0) row_found (positive e.0)

pub found_entry : (es : Row) (k : ℕ) → k < length es → (e : Pointstamp × ℕ) × (e ≡ get_or es k e)
found_entry es k lt = let d = an_entry es k lt in (get_or es k d, get_or_default es k d (get_or es k d) lt)

-- ---- n counts the known precursors of t, whose epochs are below the given one, and those among the first i entries
abbrev pub IsCounted : Dataflow → DeltaValue → Pointstamp → ℕ → List Row → ℕ → ℕ → Type 0
IsCounted g m t below rows i n = IsCountUpTo m (all_points (points_by_row rows)) (IsPrecursor g m t) (IsEarlier g m t below) i n

module _ (g : Dataflow) (m : DeltaValue) (t : Pointstamp) (below : ℕ) (rows : List Row) (listed : IsListed point_cmp (joined rows)) (r n : ℕ) where
  module _ (k : ℕ) (e : Pointstamp × ℕ) (lt : k < length (row_of rows r)) (is : e ≡ get_or (row_of rows r) k e) (h : IsCounted g m t below rows (start (points_by_row rows) r + k) n) where
    pub row_counted : IsPrecursor g m t e.0 → below ≤ e.0.time.epoch → IsCounted g m t below rows (start (points_by_row rows) r + (k + 1)) (n + 1)
    row_counted p late = subst (λ i. IsCounted g m t below rows i (n + 1)) (omega arith)
        (count_take m _ (IsPrecursor g m t) (IsEarlier g m t below) (start (points_by_row rows) r + k) e.0 (row_next rows listed r k e lt is) n
        (not_zero _ p.positive) p (λ b. let early = b.early in omega (arith, early, late)) h)

    pub row_uncounted : (IsPrecursor g m t e.0 → IsEarlier g m t below e.0) → IsCounted g m t below rows (start (points_by_row rows) r + (k + 1)) n
    row_uncounted never = subst (λ i. IsCounted g m t below rows i n) (omega arith)
        (count_skip m _ (IsPrecursor g m t) (IsEarlier g m t below) (start (points_by_row rows) r + k) e.0 (row_next rows listed r k e lt is) n never h)

  -- several entries that are not counted
  pub all_uncounted : (i j : ℕ) → i ≤ j → j ≤ length (row_of rows r) → ((k : ℕ) (e : Pointstamp × ℕ) → i ≤ k → k < j → e ≡ get_or (row_of rows r) k e → IsPrecursor g m t e.0 → IsEarlier g m t below e.0)
      → IsCounted g m t below rows (start (points_by_row rows) r + i) n → IsCounted g m t below rows (start (points_by_row rows) r + j) n
  all_uncounted i j le upto never = onward (λ k. IsCounted g m t below rows (start (points_by_row rows) r + k) n) i j le (λ k from before h.
      let lt : k < length (row_of rows r) = omega (arith, before, upto) in
      let at = found_entry (row_of rows r) k lt in
      row_uncounted k at.0 lt at.1 h (never k at.0 from before at.1))

-- ---- the first entries of a row
below_take : (p : Pointstamp) (es : Row) (k : ℕ) → T (below_all point_cmp p es) → T (below_all point_cmp p (take k es))
below_take p es zero h = tt
below_take p [] (suc k) h = tt
below_take p (e ∷ es) (suc k) h = both _ _ (first _ _ h) (below_take p es k (second _ _ h))

pub listed_take : (es : Row) (k : ℕ) → IsListed point_cmp es → IsListed point_cmp (take k es)
listed_take es zero h = tt
listed_take [] (suc k) h = tt
listed_take (e ∷ es) (suc k) h = both _ _ (below_take e.0 es k (first (below_all point_cmp e.0 es) _ h)) (listed_take es k (second (below_all point_cmp e.0 es) _ h))

-- ---- numbers that are set right
-- the rows have the points of the old ones, the numbers before entry k of row r are right, and R holds of the others
pub record IsRightUpTo (g : Dataflow) (m : DeltaValue) (R : Pointstamp → Option ℕ → Type 0) (old : List Row) (r k : ℕ) (rows : List Row) : Type 0 where
  pub points : points_by_row rows ≡ points_by_row old
  pub moved : IsMovedUpTo g m R (all_points (points_by_row old)) (start (points_by_row old) r + k) (joined rows)

module _ (g : Dataflow) (m : DeltaValue) (R : Pointstamp → Option ℕ → Type 0) (old : List Row) where
  -- before the first row, and after the last
  pub right_none : IsListed point_cmp (joined old) → ((q : Pointstamp) → R q (find point_cmp q (joined old))) → IsRightUpTo g m R old 0 0 old
  right_none listed each =
      let ps = points_by_row old in
      let none = start-first ps in
      record { points = refl; moved = moved_none g m R (all_points ps) (joined old) (start ps 0 + 0) (keys old ps refl) listed (omega (arith, none)) each }

  pub right_all : ((q : Pointstamp) → R q None → IsKeptAt g m q None) → (r : ℕ) (rows : List Row) → length old ≤ r → IsRightUpTo g m R old r 0 rows → (q : Pointstamp) → IsKeptAt g m q (find point_cmp q (joined rows))
  right_all absent r rows past h =
      let all = last_row old rows h.points r past in
      moved_all g m R (all_points (points_by_row old)) absent (start (points_by_row old) r + 0) (joined rows) (omega (arith, all)) h.moved

  -- after the last entry of a row
  pub right_row : (r k : ℕ) (mid rows : List Row) → points_by_row mid ≡ points_by_row old → r < length old → k ≡ length (row_of mid r) → IsRightUpTo g m R old r k rows → IsRightUpTo g m R old (r + 1) 0 rows
  right_row r k mid rows same lt end h =
      let next = next_row old mid same r lt in
      record { points = h.points; moved = subst (λ i. IsMovedUpTo g m R (all_points (points_by_row old)) i (joined rows)) (omega (arith, next, end)) h.moved }

  module _ (r k : ℕ) (rows : List Row) (h : IsRightUpTo g m R old r k rows) where
    -- what is stored for a later entry
    pub row_waiting : (j : ℕ) (e : Pointstamp × ℕ) → k ≤ j → j < length (row_of rows r) → e ≡ get_or (row_of rows r) j e → R e.0 (Some e.1)
    row_waiting j e le lt is =
        let ps = points_by_row old in
        waiting_on g m R (all_points ps) (start ps r + k) (start ps r + j) (joined rows) h.moved e (omega (arith, le)) (entry_within rows ps h.points r j lt) (entry_is rows ps h.points r j e lt is)

    -- the next entry
    module _ (e : Pointstamp × ℕ) (lt : k < length (row_of rows r)) (is : e ≡ get_or (row_of rows r) k e) where
      pub row_skip : IsKeptAt g m e.0 (Some e.1) → IsRightUpTo g m R old r (k + 1) rows
      row_skip right =
          let ps = points_by_row old in
          record {
            points = h.points;
            moved = subst (λ i. IsMovedUpTo g m R (all_points ps) i (joined rows)) (omega arith)
                (moved_skip g m R (all_points ps) (start ps r + k) (joined rows) h.moved e (entry_within rows ps h.points r k lt) (entry_is rows ps h.points r k e lt is) right);
          }

      pub row_put : (news : List Row) (n : ℕ) → IsPutIn r k n rows news → points_by_row news ≡ points_by_row rows → IsListed point_cmp (joined news) → IsKeptAt g m e.0 (Some n) → IsRightUpTo g m R old r (k + 1) news
      row_put news n put_in points listed right =
          let ps = points_by_row old in
          record {
            points = points ∙ h.points;
            moved = subst (λ i. IsMovedUpTo g m R (all_points ps) i (joined news)) (omega arith)
                (moved_put g m R (all_points ps) (start ps r + k) (joined rows) h.moved e (entry_within rows ps h.points r k lt) (entry_is rows ps h.points r k e lt is) (joined news) n
                (put_in e ∙ ap (λ y. put point_cmp y.0 n (joined rows)) (sym is)) (same_keys rows news points) listed right);
          }

    -- the numbers before it are those that are kept
    pub row_kept : k ≤ length (row_of rows r) → AreKept g m (take k (row_of rows r))
    row_kept upto q n found =
        let row = row_of rows r in
        let ps = points_by_row old in
        let at = found_at point_cmp point_exact (take k row) q n found in
        let long = length-take-le k row upto in
        let early : at.index < k = omega (arith, at.in_range, long) in
        let lt : at.index < length row = omega (arith, early, upto) in
        let is : (q, n) ≡ get_or row at.index (q, n) = sym at.is ∙ get_or-take k row at.index (q, n) early in
        let here = entry_is rows ps h.points r at.index (q, n) lt is in
        let within = entry_within rows ps h.points r at.index lt in
        subst (IsKeptAt g m q) (row_found rows h.moved.listed r at.index (q, n) lt is) (h.moved.done q (record {
          index = start ps r + at.index;
          early = omega (arith, early);
          in_range = let many = many_keys (joined rows) (all_points ps) (keys rows ps h.points) in omega (arith, within, many);
          is = key_at (joined rows) (all_points ps) (keys rows ps h.points) (start ps r + at.index) (q, n) q within ∙ ap (λ y. y.0) (sym here);
        }))

  -- several entries whose numbers are right
  pub all_skip : (r : ℕ) (rows : List Row) (i j : ℕ) → i ≤ j → j ≤ length (row_of rows r) → ((k : ℕ) (e : Pointstamp × ℕ) → i ≤ k → k < j → e ≡ get_or (row_of rows r) k e → R e.0 (Some e.1) → IsKeptAt g m e.0 (Some e.1))
      → IsRightUpTo g m R old r i rows → IsRightUpTo g m R old r j rows
  all_skip r rows i j le upto right = onward (λ k. IsRightUpTo g m R old r k rows) i j le (λ k from before h.
      let lt : k < length (row_of rows r) = omega (arith, before, upto) in
      let at = found_entry (row_of rows r) k lt in
      row_skip r k rows h at.0 lt at.1 (right k at.0 from before at.1 (row_waiting r k rows h k at.0 (omega arith) lt at.1)))
