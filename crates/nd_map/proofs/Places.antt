-- A sorted list of entries: searches in its vector and edits of it.
use Rattle.std.proofs.Common.{◌≡◌, ◌≤◌, ◌<◌, ℕ, zero, suc, cond, not, T, List, [], ◌∷◌, length, get_or, set, Some, None, Ordering, Less, Equal, Greater, refl, sym, ap, ◌∙◌, arith, inl, inr}
use Rattle.std.proofs.lemmas.Bool.{cases_lt}
use Rattle.std.specs.List.{insert, remove}
use Rattle.std.specs.Ordering.{eq_by_cmp, is_eq, ordering_index, ordering_reverse}
use Rattle.std.specs.Cmp.{IsTotalOrder}
use Rattle.std.proofs.lemmas.Cmp.{alike_right, tied_back, tied_itself}
use Rattle.std.specs.FinMap.{find, put, is_sorted}
use Rattle.std.specs.FinMap.Entries.{below_all, where_key, is_sorted-where_key}
use Rattle.nd_map.specs.Entries.{below_at, rises}
use Rattle.nd_map.specs.Counts.{keys_of}
use Rattle.nd_map.specs.Listed.{IsListed, without}
use Rattle.nd_map.specs.Maps.{none_below}
use Rattle.nd_map.specs.Place.{IsAt, IsGap}
use Rattle.nd_map.specs.Cases.{first, second, less}

-- the entries without a key are sorted
pub listed_without : {K X : Type 0} (R : K → K → Ordering) (k : K) (es : List (K × X)) → IsListed R es → IsListed R (without R k es)
listed_without R k es h = is_sorted-where_key R (λ q. not (eq_by_cmp R k q)) es h

-- replacing a value does not change the keys
pub keys_over : {K X : Type 0} (v : X) (es : List (K × X)) (i : ℕ) (e : K × X) → e ≡ get_or es i e → keys_of (set es i (e.0, v)) ≡ keys_of es
keys_over v [] i e is = refl
keys_over v (f ∷ es) zero e is = ap (λ k. k ∷ keys_of es) (ap (λ x. x.0) is)
keys_over v (f ∷ es) (suc i) e is = ap (λ ks. f.0 ∷ ks) (keys_over v es i e is)

module _ {K : Type 0} (R : K → K → Ordering) (o : IsTotalOrder R) where
  greater : (x y : K) → R x y ≡ Less → R y x ≡ Greater
  greater x y h = o.antisymm y x ∙ ap ordering_reverse h

  smaller : (x y : K) → R x y ≡ Greater → R y x ≡ Less
  smaller x y h = o.antisymm y x ∙ ap ordering_reverse h

  index_rises : (x y p : K) → R x y ≡ Less → ordering_index (R x p) ≤ ordering_index (R y p)
  index_rises x y p lt = by (R x p) refl
    where
      by : (r : Ordering) → R x p ≡ r → ordering_index r ≤ ordering_index (R y p)
      by Less e = omega arith
      by Equal e = rw (greater p y (sym (o.congr x p y e) ∙ lt)) (omega arith)
      by Greater e = rw (greater p y (o.trans p x y (smaller x p e) lt)) (omega arith)

module _ {K X : Type 0} (R : K → K → Ordering) (o : IsTotalOrder R) where
  -- the results of comparing keys with p increase along the list
  pub answers_rise : (es : List (K × X)) → T (is_sorted R es) → (p : K) (i j : ℕ) (d : K × X) → i ≤ j → j < length es → ordering_index (R (get_or es i d).0 p) ≤ ordering_index (R (get_or es j d).0 p)
  answers_rise es h p i j d le in_range = elim (cases_lt i j) [
    | inl lt ↦ index_rises R o _ _ p (rises R o es h i j d lt in_range)
    | inr ge ↦ let same : i ≡ j = omega arith in rw same (omega arith)
  ]

  pub at_from : (p : K) (es : List (K × X)) (i : ℕ) (d : K × X) → T (is_sorted R es) → i < length es → R (get_or es i d).0 p ≡ Equal → IsAt R p es i
  at_from p [] i d h lt e = absurd (omega arith)
  at_from p (x ∷ es) zero d h lt e = tied_back o x.0 p e
  at_from p (x ∷ es) (suc i) d h lt e = (
    greater R o x.0 p (sym (alike_right o (get_or es i d).0 p x.0 e) ∙ below_at R o x.0 es i d (first _ _ h) (omega arith)),
    at_from p es i d (second _ _ h) (omega arith) e,
  )

  pub gap_from : (p : K) (es : List (K × X)) (i : ℕ) (d : K × X) → i ≤ length es → ((j : ℕ) → j < i → R (get_or es j d).0 p ≡ Less) → ((j : ℕ) → i ≤ j → j < length es → R (get_or es j d).0 p ≡ Greater) → IsGap R p es i
  gap_from p [] zero d le before after = tt
  gap_from p [] (suc i) d le before after = absurd (omega arith)
  gap_from p (x ∷ es) zero d le before after = smaller R o x.0 p (after 0 (omega arith) (omega arith))
  gap_from p (x ∷ es) (suc i) d le before after = (
    greater R o x.0 p (before 0 (omega arith)),
    gap_from p es i d (omega arith) (λ j lt. before (suc j) (omega arith)) (λ j ge lt. after (suc j) (omega arith) (omega arith)),
  )

  pub find_at : (p : K) (es : List (K × X)) (i : ℕ) (d : K × X) → IsAt R p es i → find R p es ≡ Some (get_or es i d).1
  find_at p [] i d h = absurd h
  find_at p (e ∷ es) zero d h = ap (λ r. cond (is_eq r) (Some e.1) (find R p es)) h
  find_at p (e ∷ es) (suc i) d h = ap (λ r. cond (is_eq r) (Some e.1) (find R p es)) h.0 ∙ find_at p es i d h.1

  pub find_gap : (p : K) (es : List (K × X)) (i : ℕ) → T (is_sorted R es) → IsGap R p es i → find R p es ≡ None
  find_gap p [] i s h = refl
  find_gap p (e ∷ es) zero s h = ap (λ r. cond (is_eq r) (Some e.1) (find R p es)) h ∙ none_below R o p es e.0 h (first _ _ s)
  find_gap p (e ∷ es) (suc i) s h = ap (λ r. cond (is_eq r) (Some e.1) (find R p es)) h.0 ∙ find_gap p es i (second _ _ s) h.1

  -- replacing the value of an entry is a put at its key
  put_at : (p : K) (v : X) (es : List (K × X)) (i : ℕ) (d : K × X) → IsAt R p es i → set es i ((get_or es i d).0, v) ≡ put R p v es
  put_at p v [] i d h = absurd h
  put_at p v (e ∷ es) zero d h = rw h refl
  put_at p v (e ∷ es) (suc i) d h = rw h.0 (ap (λ fs. e ∷ fs) (put_at p v es i d h.1))

  -- the same, with the entry as it was read
  pub put_over : (p : K) (v : X) (es : List (K × X)) (i : ℕ) (d : K × X) → d ≡ get_or es i d → IsAt R p es i → set es i (d.0, v) ≡ put R p v es
  put_over p v es i d is h = ap (λ e. set es i (e.0, v)) is ∙ put_at p v es i d h

  -- replacing the value of an entry in the list is a put at its key
  pub put_there : (v : X) (es : List (K × X)) (i : ℕ) (e d : K × X) → IsListed R es → i < length es → e ≡ get_or es i e → set es i (e.0, v) ≡ put R (get_or es i d).0 v es
  put_there v es i e d h lt is = put_over (get_or es i d).0 v es i e is (at_from (get_or es i d).0 es i d h lt (tied_itself o (get_or es i d).0))

  -- inserting a new entry is a put at its key
  pub put_gap : (p : K) (v : X) (es : List (K × X)) (i : ℕ) → IsGap R p es i → insert es i (p, v) ≡ put R p v es
  put_gap p v [] zero h = refl
  put_gap p v [] (suc i) h = absurd h
  put_gap p v (e ∷ es) zero h = rw h refl
  put_gap p v (e ∷ es) (suc i) h = rw h.0 (ap (λ fs. e ∷ fs) (put_gap p v es i h.1))

  pub keeps : (p : K) (es : List (K × X)) (x : K) → R p x ≡ Equal → T (below_all R x es) → where_key R (λ k. not (eq_by_cmp R p k)) es ≡ es
  keeps p [] x e h = refl
  keeps p (f ∷ es) x e h =
      let rest = where_key R (λ k. not (eq_by_cmp R p k)) es in
      ap (λ r. cond (not (is_eq r)) (f ∷ rest) rest) (o.congr p x f.0 e ∙ less _ (first _ _ h)) ∙ ap (λ fs. f ∷ fs) (keeps p es x e (second _ _ h))

  passes : (p : K) (es : List (K × X)) (x : K) → R p x ≡ Less → T (below_all R x es) → where_key R (λ k. not (eq_by_cmp R p k)) es ≡ es
  passes p [] x lt h = refl
  passes p (f ∷ es) x lt h =
      let rest = where_key R (λ k. not (eq_by_cmp R p k)) es in
      ap (λ r. cond (not (is_eq r)) (f ∷ rest) rest) (o.trans p x f.0 lt (less _ (first _ _ h))) ∙ ap (λ fs. f ∷ fs) (passes p es x lt (second _ _ h))

  -- removing an entry is removing its key
  pub without_at : (p : K) (es : List (K × X)) (i : ℕ) → T (is_sorted R es) → IsAt R p es i → remove es i ≡ where_key R (λ k. not (eq_by_cmp R p k)) es
  without_at p [] i s h = absurd h
  without_at p (e ∷ es) zero s h = rw h (sym (keeps p es e.0 h (first _ _ s)))
  without_at p (e ∷ es) (suc i) s h = rw h.0 (ap (λ fs. e ∷ fs) (without_at p es i (second _ _ s) h.1))

  -- if the key is not there, removing it changes nothing
  pub without_gap : (p : K) (es : List (K × X)) (i : ℕ) → T (is_sorted R es) → IsGap R p es i → es ≡ where_key R (λ k. not (eq_by_cmp R p k)) es
  without_gap p [] i s h = refl
  without_gap p (e ∷ es) zero s h = sym (ap (λ r. let rest = where_key R (λ k. not (eq_by_cmp R p k)) es in cond (not (is_eq r)) (e ∷ rest) rest) h ∙ ap (λ fs. e ∷ fs) (passes p es e.0 h (first _ _ s)))
  without_gap p (e ∷ es) (suc i) s h = rw h.0 (ap (λ fs. e ∷ fs) (without_gap p es i (second _ _ s) h.1))
