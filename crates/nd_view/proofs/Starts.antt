-- Where each row starts in the list of all entries.
use Rattle.std.proofs.Common.{◌≡◌, ◌<◌, ◌≤◌, ◌+◌, ℕ, zero, suc, List, [], ◌∷◌, ◌++◌, length, get_or, take, refl, sym, ap, ◌∙◌, inl, inr, arith, length-append}
use Rattle.std.specs.Prelude.{flat_map}
use Rattle.std.proofs.lemmas.Bool.{cases_lt}
use Rattle.std.proofs.lemmas.Grind.{flat_map-append}
use Rattle.std.proofs.lemmas.List.{get_or_past, map-append, take-map, take_all, take_more}
use Rattle.std.proofs.lemmas.List.Concat.{get_or-flat_map}
use Rattle.std.proofs.lemmas.List.Folds.{length-flat_map-take}
use Rattle.nd_map.specs.Counts.{keys_of}
use Rattle.nd_paths.specs.declared.point.Pointstamp.{Pointstamp}
use Rattle.nd_view.specs.Rows.{Row, joined, row_of, points_by_row}
use Rattle.nd_view.proofs.Early.{many_keys, same_length}
use Rattle.nd_view.proofs.Shifts.{same_key}

-- the points of all rows
abbrev pub all_points : List (List Pointstamp) → List Pointstamp
all_points ps = flat_map (λ p. p) ps

-- the number of points in the first r rows
pub start : List (List Pointstamp) → ℕ → ℕ
start ps r = length (all_points (take r ps))

pub start-first : (ps : List (List Pointstamp)) → start ps 0 ≡ 0
unfolding start
start-first ps = refl

rows_keys : (rows : List Row) → keys_of (joined rows) ≡ all_points (points_by_row rows)
rows_keys [] = refl
rows_keys (es ∷ rows) = map-append (λ e. e.0) es (joined rows) ∙ ap (λ l. keys_of es ++ l) (rows_keys rows)

row_start : (rows : List Row) (r : ℕ) → start (points_by_row rows) r ≡ length (joined (take r rows))
unfolding start
row_start rows r =
    ap (λ l. length (all_points l)) (take-map (λ es. keys_of es) r rows) ∙ ap length (sym (rows_keys (take r rows)))
    ∙ sym (many_keys (joined (take r rows)) (keys_of (joined (take r rows))) refl)

row_there : (rows : List Row) (r k : ℕ) → k < length (row_of rows r) → r < length rows
row_there rows r k inside = elim (cases_lt r (length rows)) [
  | inl lt ↦ lt
  | inr past ↦ let none = get_or_past rows r [] past in absurd (omega (arith, inside, ap length none))
]

row_points : (rows : List Row) (r : ℕ) → keys_of (row_of rows r) ≡ get_or (points_by_row rows) r []
row_points [] r = refl
row_points (es ∷ rows) zero = refl
row_points (es ∷ rows) (suc r) = row_points rows r

-- rows with the given points
module _ (rows : List Row) (ps : List (List Pointstamp)) (same : points_by_row rows ≡ ps) where
  pub keys : keys_of (joined rows) ≡ all_points ps
  keys = rows_keys rows ∙ ap all_points same

  before : (r : ℕ) → start ps r ≡ length (joined (take r rows))
  before r = ap (λ l. start l r) (sym same) ∙ row_start rows r

  -- an entry of a row in the list of all entries
  pub entry_is : (r k : ℕ) (e : Pointstamp × ℕ) → k < length (row_of rows r) → e ≡ get_or (row_of rows r) k e → e ≡ get_or (joined rows) (start ps r + k) e
  entry_is r k e inside is = is ∙ sym (get_or-flat_map (λ es. es) rows r k [] e (row_there rows r k inside) inside) ∙ ap (λ i. get_or (joined rows) (i + k) e) (sym (before r))

  pub entry_within : (r k : ℕ) → k < length (row_of rows r) → start ps r + k < length (joined rows)
  entry_within r k inside =
      let at = before r in
      let rest = length-flat_map-take (λ es. es) rows r [] (row_there rows r k inside) in
      omega (arith, inside, at, rest)

-- rows with the same points
module _ (old new : List Row) (same : points_by_row new ≡ points_by_row old) where
  row_keys : (r : ℕ) → keys_of (row_of new r) ≡ keys_of (row_of old r)
  row_keys r = row_points new r ∙ ap (λ l. get_or l r []) same ∙ sym (row_points old r)

  pub same_keys : keys_of (joined new) ≡ keys_of (joined old)
  same_keys = rows_keys new ∙ ap all_points same ∙ sym (rows_keys old)

  pub as_many : length (joined new) ≡ length (joined old)
  as_many = same_length (joined old) (joined new) same_keys

  pub same_row : (r : ℕ) → length (row_of new r) ≡ length (row_of old r)
  same_row r = same_length (row_of old r) (row_of new r) (row_keys r)

  pub same_row_key : (r k : ℕ) (d : Pointstamp × ℕ) → k < length (row_of old r) → (get_or (row_of new r) k d).0 ≡ (get_or (row_of old r) k d).0
  same_row_key r k d lt = same_key (row_of old r) (row_of new r) k d (row_keys r) lt

  -- the next row starts after the entries of this one
  pub next_row : (r : ℕ) → r < length old → start (points_by_row old) r + length (row_of new r) ≡ start (points_by_row old) (r + 1)
  next_row r lt =
      let row = row_of old r in
      let first = row_start old r in
      let next = row_start old (r + 1) in
      let more = ap (λ l. length (joined l)) (take_more old r [] lt) ∙ ap length (flat_map-append (λ es. es) (take r old) (row ∷ [])) in
      let long = same_row r in
      omega (arith, first, next, more, long, length-append (joined (take r old)) (row ++ []), length-append row [])

  -- after the last row
  pub all_rows : (r : ℕ) → length old ≤ r → start (points_by_row old) r ≡ length (joined new)
  all_rows r past =
      let first = row_start old r in
      let all = ap (λ l. length (joined l)) (take_all r old past) in
      let many = as_many in
      omega (arith, first, all, many)

  pub last_row : (r : ℕ) → length old ≤ r → length (joined new) ≤ start (points_by_row old) r
  last_row r past = let all = all_rows r past in omega (arith, all)
