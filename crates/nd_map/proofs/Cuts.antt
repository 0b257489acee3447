-- A sorted list of entries, cut at a key.
use Rattle.std.proofs.Common.{◌≡◌, ◌≤◌, ◌-◌, ◌+◌, ℕ, zero, suc, Bool, true, false, cond, not, ◌&&◌, T, List, [], ◌∷◌, length, take, drop, length-drop, Ordering, Less, Equal, refl, sym, ap, subst, ◌∙◌, add-one, arith}
use Rattle.std.specs.Ordering.{is_le, is_lt}
use Rattle.std.specs.Cmp.{IsTotalOrder}
use Rattle.std.specs.List.{filter}
use Rattle.std.specs.FinMap.Entries.{below_all}
use Rattle.nd_map.specs.Listed.{IsListed}
use Rattle.nd_map.specs.Entries.{listed-drop}
use Rattle.nd_map.specs.Place.{IsAt, IsGap}
use Rattle.nd_map.specs.Cases.{first, second, less}

whole : {E : Type 0} (es : List E) (n : ℕ) → length es ≤ n → take n es ≡ es
whole [] zero le = refl
whole [] (suc n) le = refl
whole (e ∷ es) zero le = absurd (omega (arith, le))
whole (e ∷ es) (suc n) le = ap (λ fs. e ∷ fs) (whole es n (omega (arith, le)))

-- the rest of a list after some entries is sorted
pub listed_rest : {K X : Type 0} (R : K → K → Ordering) (es : List (K × X)) (i n : ℕ) → n ≡ length es - i → IsListed R es → IsListed R (take n (drop i es))
listed_rest R es i n is h = subst (IsListed R) (sym (whole (drop i es) n (omega (arith, is, length-drop i es)))) (listed-drop R es i h)

-- filtering by two tests in turn is filtering by both
pub both : {E : Type 0} (p q : E → Bool) (es : List E) → filter q (filter p es) ≡ filter (λ e. p e && q e) es
both p q [] = refl
both p q (e ∷ es) = elim (p e) as (λ b. filter q (cond b (e ∷ filter p es) (filter p es)) ≡ cond (b && q e) (e ∷ filter (λ e. p e && q e) es) (filter (λ e. p e && q e) es)) [
  | true ↦ ap (λ fs. cond (q e) (e ∷ fs) fs) (both p q es)
  | false ↦ both p q es
]

module _ {K : Type 0} (R : K → K → Ordering) (o : IsTotalOrder R) (p : K) where
  after_less : (x : K) → R p x ≡ Less → (y : K) → R x y ≡ Less → R p y ≡ Less
  after_less x h y lt = o.trans p x y h lt

  after_equal : (x : K) → R p x ≡ Equal → (y : K) → R x y ≡ Less → R p y ≡ Less
  after_equal x h y lt = o.congr p x y h ∙ lt

module _ {K X : Type 0} (R : K → K → Ordering) (o : IsTotalOrder R) (p : K) where
  -- the entries at or above p, and those at or below p
  abbrev from_p : List (K × X) → List (K × X)
  from_p es = filter (λ e. is_le (R p e.0)) es

  abbrev up_to_p : List (K × X) → List (K × X)
  up_to_p es = filter (λ e. not (is_lt (R p e.0))) es

  -- if every key above x is also above p, all entries after x are above p
  all_from : (x : K) (es : List (K × X)) → ((y : K) → R x y ≡ Less → R p y ≡ Less) → T (below_all R x es) → from_p es ≡ es
  all_from x [] above h = refl
  all_from x (e ∷ es) above h = rw (above e.0 (less _ (first (is_lt (R x e.0)) _ h))) (ap (λ fs. e ∷ fs) (all_from x es above (second _ _ h)))

  none_up_to : (x : K) (es : List (K × X)) → ((y : K) → R x y ≡ Less → R p y ≡ Less) → T (below_all R x es) → up_to_p es ≡ []
  none_up_to x [] above h = refl
  none_up_to x (e ∷ es) above h = rw (above e.0 (less _ (first (is_lt (R x e.0)) _ h))) (none_up_to x es above (second _ _ h))

  drop_at : (es : List (K × X)) (i : ℕ) → IsListed R es → IsAt R p es i → drop i es ≡ from_p es
  drop_at [] i s h = absurd h
  drop_at (e ∷ es) zero s h = rw h (ap (λ fs. e ∷ fs) (sym (all_from e.0 es (after_equal R o p e.0 h) (first _ _ s))))
  drop_at (e ∷ es) (suc i) s h = rw h.0 (drop_at es i (second _ _ s) h.1)

  drop_gap : (es : List (K × X)) (i : ℕ) → IsListed R es → IsGap R p es i → drop i es ≡ from_p es
  drop_gap [] zero s h = refl
  drop_gap [] (suc i) s h = absurd h
  drop_gap (e ∷ es) zero s h = rw h (ap (λ fs. e ∷ fs) (sym (all_from e.0 es (after_less R o p e.0 h) (first _ _ s))))
  drop_gap (e ∷ es) (suc i) s h = rw h.0 (drop_gap es i (second _ _ s) h.1)

  -- the same, by the number of entries left
  pub rest_at : (es : List (K × X)) (i n : ℕ) → n ≡ length es - i → IsListed R es → IsAt R p es i → take n (drop i es) ≡ from_p es
  rest_at es i n is s h = whole (drop i es) n (omega (arith, is, length-drop i es)) ∙ drop_at es i s h

  pub rest_gap : (es : List (K × X)) (i n : ℕ) → n ≡ length es - i → IsListed R es → IsGap R p es i → take n (drop i es) ≡ from_p es
  rest_gap es i n is s h = whole (drop i es) n (omega (arith, is, length-drop i es)) ∙ drop_gap es i s h

  front_at : (es : List (K × X)) (i : ℕ) → IsListed R es → IsAt R p es i → take (suc i) es ≡ up_to_p es
  front_at [] i s h = absurd h
  front_at (e ∷ es) zero s h = rw h (ap (λ fs. e ∷ fs) (sym (none_up_to e.0 es (after_equal R o p e.0 h) (first _ _ s))))
  front_at (e ∷ es) (suc i) s h = rw h.0 (ap (λ fs. e ∷ fs) (front_at es i (second _ _ s) h.1))

  pub take_at : (es : List (K × X)) (i : ℕ) → IsListed R es → IsAt R p es i → take (i + 1) es ≡ up_to_p es
  take_at es i s h = rw (add-one i) (front_at es i s h)

  pub take_gap : (es : List (K × X)) (i : ℕ) → IsListed R es → IsGap R p es i → take i es ≡ up_to_p es
  take_gap [] zero s h = refl
  take_gap [] (suc i) s h = absurd h
  take_gap (e ∷ es) zero s h = rw h (sym (none_up_to e.0 es (after_less R o p e.0 h) (first _ _ s)))
  take_gap (e ∷ es) (suc i) s h = rw h.0 (ap (λ fs. e ∷ fs) (take_gap es i (second _ _ s) h.1))
