-- Lists of entries in the order of their keys, entry by entry:
--     listed-drop, drop-at          the rest of a list is in order, and begins with the next entry
--     find-head, absent_in_tail     the first entry is found at its key, and no later entry has that key
--     rises                         a later entry has a greater key
--     find-index, all_found, found_all      each entry is found at its key, and what is found at a key is an entry
use Rattle.std.specs.Prelude.{◌≡◌, ◌<◌, ℕ, true, false, cond, T, List, [], ◌∷◌, All, Some, None, length, refl}
use Rattle.std.proofs.Common.{zero, suc, drop, get_or, sym, ap, subst, ◌∙◌, arith, drop-cons, Ordering, Less, Greater}
use Rattle.std.specs.Option.{unwrap_or}
use Rattle.std.specs.Ordering.{eq_by_cmp, is_eq, ordering_reverse}
use Rattle.std.specs.Cmp.{IsTotalOrder}
use Rattle.std.proofs.lemmas.Cmp.{tied_itself}
use Rattle.std.specs.FinMap.{IsAntisymmetric, find}
use Rattle.std.specs.FinMap.Entries.{below_all}
use Rattle.nd_map.specs.Listed.{IsListed}
use Rattle.nd_map.specs.Cases.{first, second, less, equal}

greater : {K : Type 0} (R : K → K → Ordering) → IsTotalOrder R → (x y : K) → R x y ≡ Less → R y x ≡ Greater
greater R o x y h = o.antisymm y x ∙ ap ordering_reverse h

module _ {K X : Type 0} (R : K → K → Ordering) where
  pub listed-tail : (e : K × X) (es : List (K × X)) → IsListed R (e ∷ es) → IsListed R es
  listed-tail e es h = second (below_all R e.0 es) _ h

  pub listed-drop : (es : List (K × X)) (i : ℕ) → IsListed R es → IsListed R (drop i es)
  listed-drop es zero h = h
  listed-drop [] (suc i) h = h
  listed-drop (e ∷ es) (suc i) h = listed-drop es i (listed-tail e es h)

  not_below : (k : K) (es : List (K × X)) → T (below_all R k es) → find R k es ≡ None
  not_below k [] h = refl
  not_below k (e ∷ es) h = ap (λ r. cond (is_eq r) (Some e.1) (find R k es)) (less _ (first _ _ h)) ∙ not_below k es (second _ _ h)

  pub absent_in_tail : (e : K × X) (es : List (K × X)) → IsListed R (e ∷ es) → find R e.0 es ≡ None
  absent_in_tail e es h = not_below e.0 es (first (below_all R e.0 es) _ h)

-- the rest of a list from position i begins with the entry x at position i
pub drop-at : {E : Type 0} (es : List E) (i : ℕ) (x : E) → i < length es → x ≡ get_or es i x → drop i es ≡ x ∷ drop (suc i) es
drop-at es i x lt is = drop-cons es i x lt ∙ ap (λ y. y ∷ drop (suc i) es) (sym is)

module _ {K X : Type 0} (R : K → K → Ordering) (o : IsTotalOrder R) where
  pub find-head : (e : K × X) (es : List (K × X)) → find R e.0 (e ∷ es) ≡ Some e.1
  find-head e es = ap (λ r. cond (is_eq r) (Some e.1) (find R e.0 es)) (tied_itself o e.0)

  pub below_at : (k : K) (es : List (K × X)) (i : ℕ) (d : K × X) → T (below_all R k es) → i < length es → R k (get_or es i d).0 ≡ Less
  below_at k [] i d h lt = absurd (omega arith)
  below_at k (e ∷ es) zero d h lt = less _ (first _ _ h)
  below_at k (e ∷ es) (suc i) d h lt = below_at k es i d (second _ _ h) (omega arith)

  -- keys increase along the list
  pub rises : (es : List (K × X)) → IsListed R es → (i j : ℕ) (d : K × X) → i < j → j < length es → R (get_or es i d).0 (get_or es j d).0 ≡ Less
  rises [] h i j d lt in_range = absurd (omega arith)
  rises (e ∷ es) h i zero d lt in_range = absurd (omega arith)
  rises (e ∷ es) h zero (suc j) d lt in_range = below_at e.0 es j d (first (below_all R e.0 es) _ h) (omega arith)
  rises (e ∷ es) h (suc i) (suc j) d lt in_range = rises es (listed-tail R e es h) i j d (omega arith) (omega arith)

  -- an entry is found at its key
  pub find-index : (es : List (K × X)) (i : ℕ) (d : K × X) → IsListed R es → i < length es → find R (get_or es i d).0 es ≡ Some (get_or es i d).1
  find-index [] i d h lt = absurd (omega arith)
  find-index (e ∷ es) zero d h lt = find-head e es
  find-index (e ∷ es) (suc i) d h lt =
      ap (λ r. cond (is_eq r) (Some e.1) (find R (get_or es i d).0 es)) (greater R o _ _ (below_at e.0 es i d (first (below_all R e.0 es) _ h) (omega arith)))
      ∙ find-index es i d (listed-tail R e es h) (omega arith)

  -- if P holds of whatever a lookup finds, it holds of each entry
  pub all_found : (P : K → X → Type 0) (es : List (K × X)) → IsListed R es → ((k : K) (v : X) → find R k es ≡ Some v → P k v) → All (λ e. P e.0 e.1) es
  all_found P es h holds i d lt = holds (get_or es i d).0 (get_or es i d).1 (find-index es i d h lt)

same_some : {A : Type 0} (x y : A) → Some x ≡ Some y → x ≡ y
same_some x y e = ap (λ r. unwrap_or r x) e

module _ {K X : Type 0} (R : K → K → Ordering) (same : IsAntisymmetric R) where
  -- what is found at a key is an entry
  pub found_at : (es : List (K × X)) (k : K) (v : X) → find R k es ≡ Some v → record { index : ℕ; in_range : index < length es; is : get_or es index (k, v) ≡ (k, v) }
  found_at [] k v e = absurd (cc)
  found_at (f ∷ es) k v e =
      elim (eq_by_cmp R k f.0) as (λ b. eq_by_cmp R k f.0 ≡ b → cond b (Some f.1) (find R k es) ≡ Some v → record { index : ℕ; in_range : index < length (f ∷ es); is : get_or (f ∷ es) index (k, v) ≡ (k, v) }) [
        | true ↦ λ t s. record { index = 0; in_range = omega arith; is = λ i. (sym (same k f.0 (equal _ t)) i, same_some f.1 v s i) }
        | false ↦ λ t s. let at = found_at es k v s in record { index = suc at.index; in_range = omega (arith, at.in_range); is = at.is }
      ] refl e

  -- if P holds of each entry, it holds of whatever a lookup finds
  pub found_all : (P : K → X → Type 0) (es : List (K × X)) → All (λ e. P e.0 e.1) es → (k : K) (v : X) → find R k es ≡ Some v → P k v
  found_all P es all k v e =
      let at = found_at es k v e in
      subst (λ x. P x.0 x.1) at.is (all at.index (k, v) at.in_range)
