-- Lists of entries joined end to end, and rows of entries, one for each location.
use Rattle.std.proofs.Common.{◌≡◌, ◌<◌, ◌≤◌, ℕ, zero, suc, Bool, true, false, cond, not, T, List, [], ◌∷◌, ◌++◌, length, get_or, map, set, Some, None, Ordering, Less, Equal, Greater, Result, Ok, Err, refl, sym, ap, subst, ◌∙◌, arith, ◌&&◌}
use Rattle.std.specs.Prelude.{Contains, OnErr, OnOk}
use Rattle.std.specs.List.{insert}
use Rattle.std.specs.Ordering.{eq_by_cmp, is_eq, is_lt, nat_cmp, ordering_reverse}
use Rattle.std.specs.FinMap.{find, put}
use Rattle.std.specs.FinMap.Entries.{below_all, by_order}
use Rattle.std.proofs.lemmas.Cmp.{ranked}
use Rattle.std.proofs.lemmas.List.{get_or-map, get_or_default, set-get_or}
use Rattle.std.proofs.lemmas.List.Elements.{Contains-append_left, Contains-append_right, filter-append}
use Rattle.nd_map.specs.Cases.{first, second, less}
use Rattle.nd_map.specs.Counts.{keys_of}
use Rattle.nd_map.specs.Listed.{IsListed, without}
use Rattle.nd_map.specs.Maps.{listed-put, listed-without, without-none}
use Rattle.nd_paths.specs.Point.{point_cmp, point_total}
use Rattle.nd_paths.specs.declared.point.Pointstamp.{Pointstamp}
use Rattle.nd_view.specs.Links.{IsRun}
use Rattle.nd_view.specs.Rows.{AreAbove, AreAt, AreRows, IsGapFor, IsPutIn, IsRowOf, Row, all_of, joined, points_by_row, row_of}
use Rattle.nd_view.specs.declared.rows.Row.{Row as Placed}

pub both : (a b : Bool) → T a → T b → T (a && b)
both true b p q = q
both false b p q = absurd p

-- ---- entries joined end to end
module _ {K X : Type 0} (R : K → K → Ordering) where
  -- the key is above all keys of the list
  abbrev pub IsAboveAll : K → List (K × X) → Type 0
  IsAboveAll k [] = Unit {0}
  IsAboveAll k (e ∷ es) = (R k e.0 ≡ Greater) × IsAboveAll k es

  below_both : (k : K) (xs ys : List (K × X)) → T (below_all R k xs) → T (below_all R k ys) → T (below_all R k (xs ++ ys))
  below_both k [] ys p q = q
  below_both k (x ∷ xs) ys p q = both _ _ (first _ _ p) (below_both k xs ys (second _ _ p) q)

  none_above : (k : K) (es : List (K × X)) → T (below_all R k es) → find R k es ≡ None
  none_above k [] h = refl
  none_above k (e ∷ es) h = ap (λ r. cond (is_eq r) (Some e.1) (find R k es)) (less _ (first _ _ h)) ∙ none_above k es (second _ _ h)

  none_below : (k : K) (es : List (K × X)) → IsAboveAll k es → find R k es ≡ None
  none_below k [] h = refl
  none_below k (e ∷ es) h = ap (λ r. cond (is_eq r) (Some e.1) (find R k es)) h.0 ∙ none_below k es h.1

  -- a key that is below all of the second list, or above all of the first
  find_first : (k : K) (xs ys : List (K × X)) → T (below_all R k ys) → find R k (xs ++ ys) ≡ find R k xs
  find_first k [] ys h = none_above k ys h
  find_first k (x ∷ xs) ys h = ap (cond (eq_by_cmp R k x.0) (Some x.1)) (find_first k xs ys h)

  find_second : (k : K) (xs ys : List (K × X)) → IsAboveAll k xs → find R k (xs ++ ys) ≡ find R k ys
  find_second k [] ys h = refl
  find_second k (x ∷ xs) ys h = ap (λ r. cond (is_eq r) (Some x.1) (find R k (xs ++ ys))) h.0 ∙ find_second k xs ys h.1

  put_first : (k : K) (v : X) (xs ys : List (K × X)) → T (below_all R k ys) → put R k v (xs ++ ys) ≡ put R k v xs ++ ys
  put_first k v [] [] h = refl
  put_first k v [] (y ∷ ys) h = ap (λ r. by_order r ((k, v) ∷ y ∷ ys) ((y.0, v) ∷ ys) (y ∷ put R k v ys)) (less _ (first _ _ h))
  put_first k v (x ∷ xs) ys h = by (R k x.0) (put_first k v xs ys h)
    where
      by : (r : Ordering) → put R k v (xs ++ ys) ≡ put R k v xs ++ ys
          → by_order r ((k, v) ∷ x ∷ xs ++ ys) ((x.0, v) ∷ xs ++ ys) (x ∷ put R k v (xs ++ ys)) ≡ by_order r ((k, v) ∷ x ∷ xs) ((x.0, v) ∷ xs) (x ∷ put R k v xs) ++ ys
      by Less rest = refl
      by Equal rest = refl
      by Greater rest = ap (λ l. x ∷ l) rest

  put_second : (k : K) (v : X) (xs ys : List (K × X)) → IsAboveAll k xs → put R k v (xs ++ ys) ≡ xs ++ put R k v ys
  put_second k v [] ys h = refl
  put_second k v (x ∷ xs) ys h =
      ap (λ r. by_order r ((k, v) ∷ x ∷ xs ++ ys) ((x.0, v) ∷ xs ++ ys) (x ∷ put R k v (xs ++ ys))) h.0 ∙ ap (λ l. x ∷ l) (put_second k v xs ys h.1)

  without_both : (k : K) (xs ys : List (K × X)) → without R k (xs ++ ys) ≡ without R k xs ++ without R k ys
  without_both k xs ys = filter-append (λ e. not (eq_by_cmp R k e.0)) xs ys

  without_first : (k : K) (xs ys : List (K × X)) → T (below_all R k ys) → without R k (xs ++ ys) ≡ without R k xs ++ ys
  without_first k xs ys h = without_both k xs ys ∙ ap (λ l. without R k xs ++ l) (without-none R k ys (none_above k ys h))

  without_second : (k : K) (xs ys : List (K × X)) → IsAboveAll k xs → without R k (xs ++ ys) ≡ xs ++ without R k ys
  without_second k xs ys h = without_both k xs ys ∙ ap (λ l. l ++ without R k ys) (without-none R k xs (none_below k xs h))

-- ---- points at two locations
lower : (p q : Pointstamp) → p.location < q.location → point_cmp p q ≡ Less
lower p q lt = by (nat_cmp p.location q.location) refl
  where
    by : (r : Ordering) → nat_cmp p.location q.location ≡ r → point_cmp p q ≡ Less
    by Less e = rw e refl
    by Equal e = absurd (let same = ranked p.location q.location Equal (sym e) in omega (arith, same, lt))
    by Greater e = absurd (let above = ranked p.location q.location Greater (sym e) in omega (arith, above, lt))

higher : (p q : Pointstamp) → q.location < p.location → point_cmp p q ≡ Greater
higher p q lt = point_total.antisymm p q ∙ ap ordering_reverse (lower q p lt)

above_all : (p : Pointstamp) (l : ℕ) (es : Row) → AreAt l es → l < p.location → IsAboveAll point_cmp p es
above_all p l [] at lt = tt
above_all p l (e ∷ es) at lt = (higher p e.0 (omega (arith, at.0, lt)), above_all p l es at.1 lt)

below_row : (p : Pointstamp) (l : ℕ) (es : Row) → AreAt l es → p.location < l → T (below_all point_cmp p es)
below_row p l [] at lt = tt
below_row p l (e ∷ es) at lt = both _ _ (subst (λ r. T (is_lt r)) (sym (lower p e.0 (omega (arith, at.0, lt)))) tt) (below_row p l es at.1 lt)

listed_both : (l : ℕ) (xs ys : Row) → AreAt l xs → IsListed point_cmp xs → IsListed point_cmp ys → ((p : Pointstamp) → p.location ≡ l → T (below_all point_cmp p ys)) → IsListed point_cmp (xs ++ ys)
listed_both l [] ys at hx hy below = hy
listed_both l (x ∷ xs) ys at hx hy below =
    both _ _ (below_both point_cmp x.0 xs ys (first (below_all point_cmp x.0 xs) _ hx) (below x.0 at.0)) (listed_both l xs ys at.1 (second (below_all point_cmp x.0 xs) _ hx) hy below)

-- ---- entries at one location
at_index : (l : ℕ) (es : Row) → AreAt l es → (k : ℕ) (d : Pointstamp × ℕ) → k < length es → (get_or es k d).0.location ≡ l
at_index l [] at k d lt = absurd (omega (arith, lt))
at_index l (e ∷ es) at zero d lt = at.0
at_index l (e ∷ es) at (suc k) d lt = at_index l es at.1 k d (omega (arith, lt))

pub run_at : (l : ℕ) (es : Row) → AreAt l es → IsRun es 0 (length es)
run_at l es at k d _ lt = at_index l es at k d lt ∙ sym (at_index l es at 0 d (omega (arith, lt)))

at_put : (l : ℕ) (p : Pointstamp) (v : ℕ) (es : Row) → p.location ≡ l → AreAt l es → AreAt l (put point_cmp p v es)
at_put l p v [] here at = (here, tt)
at_put l p v (e ∷ es) here at =
    elim (point_cmp p e.0) as (λ r. AreAt l (by_order r ((p, v) ∷ e ∷ es) ((e.0, v) ∷ es) (e ∷ put point_cmp p v es))) [
      | Less ↦ (here, at)
      | Equal ↦ at
      | Greater ↦ (at.0, at_put l p v es here at.1)
    ]

at_without : (l : ℕ) (p : Pointstamp) (es : Row) → AreAt l es → AreAt l (without point_cmp p es)
at_without l p [] at = tt
at_without l p (e ∷ es) at =
    elim (not (eq_by_cmp point_cmp p e.0)) as (λ b. AreAt l (cond b (e ∷ without point_cmp p es) (without point_cmp p es))) [
      | true ↦ (at.0, at_without l p es at.1)
      | false ↦ at_without l p es at.1
    ]

pub an_entry : (es : Row) (k : ℕ) → k < length es → Pointstamp × ℕ
an_entry [] k lt = absurd (omega (arith, lt))
an_entry (e ∷ es) k lt = e

-- ---- rows
module _ {A : Type 0} where
  -- a row with other entries
  abbrev pub refilled : Placed A → Row → Placed A
  refilled r fs = record { location = r.location; numbers = fs }

  below_rows : (p : Pointstamp) (l : ℕ) (rs : List (Placed A)) → AreAbove l rs → AreRows rs → p.location ≤ l → T (below_all point_cmp p (all_of rs))
  below_rows p l [] above h le = tt
  below_rows p l (r ∷ rs) above h le =
      below_both point_cmp p r.numbers (all_of rs) (below_row p r.location r.numbers h.0 (omega (arith, above.0, le))) (below_rows p l rs above.1 h.1.1.1 le)

  pub listed_rows : (rs : List (Placed A)) → AreRows rs → IsListed point_cmp (all_of rs)
  listed_rows [] h = tt
  listed_rows (r ∷ rs) h =
      listed_both r.location r.numbers (all_of rs) h.0 h.1.0 (listed_rows rs h.1.1.1) (λ p here. below_rows p r.location rs h.1.1.0 h.1.1.1 (omega (arith, here)))

  -- the same of the rows as they are seen
  pub listed_as : (rs : List (Placed A)) (rows : List Row) → AreRows rs → map (λ r. r.numbers) rs ≡ rows → IsListed point_cmp (joined rows)
  listed_as rs rows h view = subst (λ l. IsListed point_cmp (joined l)) view (listed_rows rs h)

  -- the entries of a row
  pub row_at : (rs : List (Placed A)) (i : ℕ) (d : Placed A) → AreRows rs → i < length rs → AreAt (get_or rs i d).location (get_or rs i d).numbers × IsListed point_cmp (get_or rs i d).numbers
  row_at [] i d h lt = absurd (omega (arith, lt))
  row_at (r ∷ rs) zero d h lt = (h.0, h.1.0)
  row_at (r ∷ rs) (suc i) d h lt = row_at rs i d h.1.1.1 (omega (arith, lt))

  above_at : (l : ℕ) (rs : List (Placed A)) (i : ℕ) (d : Placed A) → AreAbove l rs → i < length rs → l < (get_or rs i d).location
  above_at l [] i d h lt = absurd (omega (arith, lt))
  above_at l (r ∷ rs) zero d h lt = h.0
  above_at l (r ∷ rs) (suc i) d h lt = above_at l rs i d h.1 (omega (arith, lt))

  -- each row is that of its location
  pub row_here : (rs : List (Placed A)) (i : ℕ) (d : Placed A) → AreRows rs → i < length rs → IsRowOf (get_or rs i d).location rs i
  row_here [] i d h lt = absurd (omega (arith, lt))
  row_here (r ∷ rs) zero d h lt = refl
  row_here (r ∷ rs) (suc i) d h lt = (above_at r.location rs i d h.1.1.0 (omega (arith, lt)), row_here rs i d h.1.1.1 (omega (arith, lt)))

  -- locations rise along the rows
  pub row_rises : (rs : List (Placed A)) (i j : ℕ) (d : Placed A) → AreRows rs → i ≤ j → j < length rs → (get_or rs i d).location ≤ (get_or rs j d).location
  row_rises [] i j d h le lt = absurd (omega (arith, lt))
  row_rises (r ∷ rs) zero zero d h le lt = omega arith
  row_rises (r ∷ rs) zero (suc j) d h le lt = let above = above_at r.location rs j d h.1.1.0 (omega (arith, lt)) in omega (arith, above)
  row_rises (r ∷ rs) (suc i) zero d h le lt = absurd (omega (arith, le))
  row_rises (r ∷ rs) (suc i) (suc j) d h le lt = row_rises rs i j d h.1.1.1 (omega (arith, le)) (omega (arith, lt))

  pub gap_from : (l : ℕ) (rs : List (Placed A)) (i : ℕ) (d : Placed A) → i ≤ length rs → ((j : ℕ) → j < i → (get_or rs j d).location < l) → ((j : ℕ) → i ≤ j → j < length rs → l < (get_or rs j d).location) → IsGapFor l rs i
  gap_from l [] zero d le before after = tt
  gap_from l [] (suc i) d le before after = absurd (omega (arith, le))
  gap_from l (r ∷ rs) zero d le before after = after 0 (omega arith) (omega arith)
  gap_from l (r ∷ rs) (suc i) d le before after = (
    before 0 (omega arith),
    gap_from l rs i d (omega (arith, le)) (λ j lt. before (suc j) (omega (arith, lt))) (λ j ge lt. after (suc j) (omega (arith, ge)) (omega (arith, lt))),
  )

  pub row_location : (l : ℕ) (rs : List (Placed A)) (i : ℕ) (d : Placed A) → IsRowOf l rs i → (get_or rs i d).location ≡ l
  row_location l [] i d h = absurd h
  row_location l (r ∷ rs) zero d h = h
  row_location l (r ∷ rs) (suc i) d h = row_location l rs i d h.1

  pub among_rows : (rs : List (Placed A)) (i : ℕ) (d : Placed A) (e : Pointstamp × ℕ) → i < length rs → Contains (get_or rs i d).numbers e → Contains (all_of rs) e
  among_rows [] i d e lt among = absurd (omega (arith, lt))
  among_rows (r ∷ rs) zero d e lt among = Contains-append_left r.numbers (all_of rs) e among
  among_rows (r ∷ rs) (suc i) d e lt among = Contains-append_right r.numbers (all_of rs) e (among_rows rs i d e (omega (arith, lt)) among)

  -- ---- look-ups
  module _ (p : Pointstamp) where
    find_row : (rs : List (Placed A)) (i : ℕ) (d : Placed A) → AreRows rs → IsRowOf p.location rs i → find point_cmp p (all_of rs) ≡ find point_cmp p (get_or rs i d).numbers
    find_row [] i d h here = absurd here
    find_row (r ∷ rs) zero d h here = find_first point_cmp p r.numbers (all_of rs) (below_rows p r.location rs h.1.1.0 h.1.1.1 (omega (arith, here)))
    find_row (r ∷ rs) (suc i) d h here = find_second point_cmp p r.numbers (all_of rs) (above_all p r.location r.numbers h.0 here.0) ∙ find_row rs i d h.1.1.1 here.1

    pub find_in : (rs : List (Placed A)) (i : ℕ) (d : Placed A) (rows : List Row) → AreRows rs → IsRowOf p.location rs i → d ≡ get_or rs i d → map (λ r. r.numbers) rs ≡ rows
        → find point_cmp p d.numbers ≡ find point_cmp p (joined rows)
    find_in rs i d rows h here is view = ap (λ r. find point_cmp p r.numbers) is ∙ sym (find_row rs i d h here) ∙ ap (λ l. find point_cmp p (joined l)) view

    pub find_gap : (rs : List (Placed A)) (i : ℕ) → AreRows rs → IsGapFor p.location rs i → find point_cmp p (all_of rs) ≡ None
    find_gap [] i h gap = refl
    find_gap (r ∷ rs) zero h gap =
        none_above point_cmp p (all_of (r ∷ rs)) (below_both point_cmp p r.numbers (all_of rs) (below_row p r.location r.numbers h.0 gap) (below_rows p r.location rs h.1.1.0 h.1.1.1 (omega (arith, gap))))
    find_gap (r ∷ rs) (suc i) h gap = find_second point_cmp p r.numbers (all_of rs) (above_all p r.location r.numbers h.0 gap.0) ∙ find_gap rs i h.1.1.1 gap.1

    -- ---- edits of one row
    put_row : (v : ℕ) (rs : List (Placed A)) (i : ℕ) (d : Placed A) → AreRows rs → IsRowOf p.location rs i
        → all_of (set rs i (refilled d (put point_cmp p v (get_or rs i d).numbers))) ≡ put point_cmp p v (all_of rs)
    put_row v [] i d h here = absurd here
    put_row v (r ∷ rs) zero d h here = sym (put_first point_cmp p v r.numbers (all_of rs) (below_rows p r.location rs h.1.1.0 h.1.1.1 (omega (arith, here))))
    put_row v (r ∷ rs) (suc i) d h here =
        ap (λ l. r.numbers ++ l) (put_row v rs i d h.1.1.1 here.1) ∙ sym (put_second point_cmp p v r.numbers (all_of rs) (above_all p r.location r.numbers h.0 here.0))

    without_row : (rs : List (Placed A)) (i : ℕ) (d : Placed A) → AreRows rs → IsRowOf p.location rs i
        → all_of (set rs i (refilled d (without point_cmp p (get_or rs i d).numbers))) ≡ without point_cmp p (all_of rs)
    without_row [] i d h here = absurd here
    without_row (r ∷ rs) zero d h here = sym (without_first point_cmp p r.numbers (all_of rs) (below_rows p r.location rs h.1.1.0 h.1.1.1 (omega (arith, here))))
    without_row (r ∷ rs) (suc i) d h here =
        ap (λ l. r.numbers ++ l) (without_row rs i d h.1.1.1 here.1) ∙ sym (without_second point_cmp p r.numbers (all_of rs) (above_all p r.location r.numbers h.0 here.0))

    pub without_gap : (rs : List (Placed A)) (i : ℕ) → AreRows rs → IsGapFor p.location rs i → all_of rs ≡ without point_cmp p (all_of rs)
    without_gap rs i h gap = sym (without-none point_cmp p (all_of rs) (find_gap rs i h gap))

  above_set : (l : ℕ) (rs : List (Placed A)) (i : ℕ) (s : Placed A) → AreAbove l rs → l < s.location → AreAbove l (set rs i s)
  above_set l [] i s h lt = tt
  above_set l (r ∷ rs) zero s h lt = (lt, h.1)
  above_set l (r ∷ rs) (suc i) s h lt = (h.0, above_set l rs i s h.1 lt)

  -- other entries in a row, at its location and in order
  rows_set : (rs : List (Placed A)) (i : ℕ) (s : Placed A) → AreRows rs → IsRowOf s.location rs i → AreAt s.location s.numbers → IsListed point_cmp s.numbers → AreRows (set rs i s)
  rows_set [] i s h here at listed = tt
  rows_set (r ∷ rs) zero s h here at listed = (at, (listed, (subst (λ l. AreAbove l rs) here h.1.1.0, h.1.1.1)))
  rows_set (r ∷ rs) (suc i) s h here at listed =
      (h.0, (h.1.0, (above_set r.location rs i s h.1.1.0 here.0, rows_set rs i s h.1.1.1 here.1 at listed)))

  points_set : (rs : List (Placed A)) (i : ℕ) (s : Placed A) → keys_of s.numbers ≡ keys_of (get_or rs i s).numbers
      → map (λ es. keys_of es) (map (λ r. r.numbers) (set rs i s)) ≡ map (λ es. keys_of es) (map (λ r. r.numbers) rs)
  points_set [] i s same = refl
  points_set (r ∷ rs) zero s same = ap (λ ks. ks ∷ map (λ es. keys_of es) (map (λ r. r.numbers) rs)) same
  points_set (r ∷ rs) (suc i) s same = ap (λ l. keys_of r.numbers ∷ l) (points_set rs i s same)

  -- ---- a new row
  above_insert : (l : ℕ) (rs : List (Placed A)) (i : ℕ) (s : Placed A) → AreAbove l rs → l < s.location → AreAbove l (insert rs i s)
  above_insert l [] zero s h lt = (lt, tt)
  above_insert l [] (suc i) s h lt = (lt, tt)
  above_insert l (r ∷ rs) zero s h lt = (lt, h)
  above_insert l (r ∷ rs) (suc i) s h lt = (h.0, above_insert l rs i s h.1 lt)

  above_from : (l m : ℕ) (rs : List (Placed A)) → AreAbove m rs → l < m → AreAbove l rs
  above_from l m [] h lt = tt
  above_from l m (r ∷ rs) h lt = (omega (arith, h.0, lt), above_from l m rs h.1 lt)

  pub rows_insert : (rs : List (Placed A)) (i : ℕ) (s : Placed A) → AreRows rs → IsGapFor s.location rs i → s.numbers ≡ [] → AreRows (insert rs i s)
  rows_insert [] zero s h gap none = (subst (AreAt s.location) (sym none) tt, (subst (IsListed point_cmp) (sym none) tt, (tt, tt)))
  rows_insert [] (suc i) s h gap none = absurd gap
  rows_insert (r ∷ rs) zero s h gap none =
      (subst (AreAt s.location) (sym none) tt, (subst (IsListed point_cmp) (sym none) tt, ((gap, above_from s.location r.location rs h.1.1.0 gap), h)))
  rows_insert (r ∷ rs) (suc i) s h gap none =
      (h.0, (h.1.0, (above_insert r.location rs i s h.1.1.0 gap.0, rows_insert rs i s h.1.1.1 gap.1 none)))

  pub insert_here : (rs : List (Placed A)) (i : ℕ) (s : Placed A) → IsGapFor s.location rs i → IsRowOf s.location (insert rs i s) i
  insert_here [] zero s gap = refl
  insert_here [] (suc i) s gap = absurd gap
  insert_here (r ∷ rs) zero s gap = refl
  insert_here (r ∷ rs) (suc i) s gap = (gap.0, insert_here rs i s gap.1)

  pub insert_same : (rs : List (Placed A)) (i : ℕ) (s : Placed A) → s.numbers ≡ [] → all_of (insert rs i s) ≡ all_of rs
  insert_same [] zero s none = ap (λ l. l ++ []) none
  insert_same [] (suc i) s none = ap (λ l. l ++ []) none
  insert_same (r ∷ rs) zero s none = ap (λ l. l ++ all_of (r ∷ rs)) none
  insert_same (r ∷ rs) (suc i) s none = ap (λ l. r.numbers ++ l) (insert_same rs i s none)

  -- ---- a row is written over
  module _ (rs : List (Placed A)) (i : ℕ) (d : Placed A) (h : AreRows rs) (lt : i < length rs) (is : d ≡ get_or rs i d) where
    the_row : AreAt d.location d.numbers × IsListed point_cmp d.numbers
    the_row = subst (λ r. AreAt r.location r.numbers × IsListed point_cmp r.numbers) (sym is) (row_at rs i d h lt)

    its_place : IsRowOf d.location rs i
    its_place = subst (λ r. IsRowOf r.location rs i) (sym is) (row_here rs i d h lt)

    refilled_rows : (fs : Row) → AreAt d.location fs → IsListed point_cmp fs → AreRows (set rs i (refilled d fs))
    refilled_rows fs at listed = rows_set rs i (refilled d fs) h its_place at listed

    module _ (p : Pointstamp) (here : p.location ≡ d.location) where
      put_rows : (v : ℕ) (fs : Row) → fs ≡ put point_cmp p v d.numbers → AreRows (set rs i (refilled d fs))
      put_rows v fs fs_is = subst (λ es. AreRows (set rs i (refilled d es))) (sym fs_is)
          (refilled_rows (put point_cmp p v d.numbers) (at_put d.location p v d.numbers here the_row.0) (listed-put point_cmp point_total p v d.numbers the_row.1))

      put_all : (v : ℕ) (fs : Row) → fs ≡ put point_cmp p v d.numbers → all_of (set rs i (refilled d fs)) ≡ put point_cmp p v (all_of rs)
      put_all v fs fs_is =
          ap (λ es. all_of (set rs i (refilled d es))) (fs_is ∙ ap (λ r. put point_cmp p v r.numbers) is)
          ∙ put_row p v rs i d h (subst (λ l. IsRowOf l rs i) (sym here) its_place)

      pub without_rows : (fs : Row) → fs ≡ without point_cmp p d.numbers → AreRows (set rs i (refilled d fs))
      without_rows fs fs_is = subst (λ es. AreRows (set rs i (refilled d es))) (sym fs_is)
          (refilled_rows (without point_cmp p d.numbers) (at_without d.location p d.numbers the_row.0) (listed-without point_cmp p d.numbers the_row.1))

      pub without_all : (fs : Row) → fs ≡ without point_cmp p d.numbers → all_of (set rs i (refilled d fs)) ≡ without point_cmp p (all_of rs)
      without_all fs fs_is =
          ap (λ es. all_of (set rs i (refilled d es))) (fs_is ∙ ap (λ r. without point_cmp p r.numbers) is)
          ∙ without_row p rs i d h (subst (λ l. IsRowOf l rs i) (sym here) its_place)

      -- a put that may be refused
      pub put_or_not : {E : Type 0} (v : ℕ) (fs old : Row) (r : Result (Unit {0}) E) → all_of rs ≡ old → OnOk r (fs ≡ put point_cmp p v d.numbers) → OnErr r (fs ≡ d.numbers)
          → record { rows : AreRows (set rs i (refilled d fs)); ok : OnOk r (all_of (set rs i (refilled d fs)) ≡ put point_cmp p v old) }
      put_or_not v fs old (Ok u) same ok err = record { rows = put_rows v fs ok; ok = put_all v fs ok ∙ ap (put point_cmp p v) same }
      put_or_not v fs old (Err e) same ok err =
          let back : set rs i (refilled d fs) ≡ rs = ap (λ es. set rs i (refilled d es)) err ∙ ap (set rs i) is ∙ set-get_or rs i d in
          record { rows = subst AreRows (sym back) h; ok = tt }

    -- the number of one entry is written over
    module _ (k n : ℕ) (fs : Row) (inside : k < length (row_of (map (λ r. r.numbers) rs) i)) (told : (e : Pointstamp × ℕ) → fs ≡ put point_cmp (get_or d.numbers k e).0 n d.numbers) where
      row_is : row_of (map (λ r. r.numbers) rs) i ≡ d.numbers
      row_is = get_or-map (λ r. r.numbers) rs i d [] lt ∙ ap (λ r. r.numbers) (sym is)

      inside_it : k < length d.numbers
      inside_it = subst (λ es. k < length es) row_is inside

      pub put_at_rows : AreRows (set rs i (refilled d fs))
      put_at_rows =
          let e = an_entry d.numbers k inside_it in
          put_rows (get_or d.numbers k e).0 (at_index d.location d.numbers the_row.0 k e inside_it) n fs (told e)

      pub put_at_all : (old : List Row) → map (λ r. r.numbers) rs ≡ old → IsPutIn i k n old (map (λ r. r.numbers) (set rs i (refilled d fs)))
      put_at_all old view e =
          put_all (get_or d.numbers k e).0 (at_index d.location d.numbers the_row.0 k e inside_it) n fs (told e)
          ∙ ap (λ es. put point_cmp (get_or es k e).0 n (all_of rs)) (sym row_is) ∙ ap (λ rows. put point_cmp (get_or (row_of rows i) k e).0 n (joined rows)) view

      pub put_at_points : keys_of fs ≡ keys_of d.numbers → points_by_row (map (λ r. r.numbers) (set rs i (refilled d fs))) ≡ points_by_row (map (λ r. r.numbers) rs)
      put_at_points same = points_set rs i (refilled d fs) (same ∙ ap (λ r. keys_of r.numbers) (is ∙ get_or_default rs i d (refilled d fs) lt))
