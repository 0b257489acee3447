-- A list of summaries, and what adding one to it keeps.
use Rattle.std.proofs.Common.{◌≡◌, ◌⊎◌, inl, inr, ℕ, zero, suc, Bool, true, false, not, ◌&&◌, cond, IsTrue, Ordering, Less, Equal, Greater, List, [], ◌∷◌, ◌++◌, refl, sym, ◌∙◌, ap, subst, arith}
use Rattle.std.specs.Prelude.{All, Contains}
use Rattle.std.specs.List.{AllPairs, filter}
use Rattle.std.specs.Ordering.{nat_cmp, is_lt, is_le, ordering_then, ordering_reverse}
use Rattle.std.specs.Cmp.{IsTotalOrder}
use Rattle.std.specs.Cmp.Lexicographic.{slice_cmp}
use Rattle.std.proofs.lemmas.Cmp.{nat_cmp_total, nat_list_cmp_total, on_total, then_total, back_total, tied_itself}
use Rattle.std.proofs.lemmas.List.Elements.{All-filter, All-contains, All-contains_itself, All-weaker, All-cons, All-append, All-head, All-tail, filter_passes, Contains-append_left, Contains-append_right, Contains-append_cases}
use Rattle.std.proofs.lemmas.List.Kept.{AllPairs-cons, AllPairs-filter}
use Rattle.std.proofs.lemmas.Map.Lookups.{CmpEqualImpliesEq, exact_unsigned, exact_bytes, exact_pairs}
use Rattle.nd_time.specs.declared.order.TimeOrder.{TimeOrder}
use Rattle.nd_time.specs.declared.order.TimeOrder.TheVariants.{Lexicographic}
use Rattle.nd_summaries.specs.declared.summary.Summary.{Summary}
use Rattle.nd_summaries.specs.Summary.{AtMost, IsListedBefore, listing_cmp}
use Rattle.nd_summaries.specs.Steps.{at_most}
use Rattle.nd_summaries.specs.Row.{IsCovered, IsNeat, listed_before, left_after, with_summary}
use Rattle.nd_summaries.proofs.Tests.{adds_lexically, at_most_decided}
use Rattle.nd_summaries.proofs.Effects.{AtMost-trans, AtMost-lexical}

and_parts : (a b : Bool) → IsTrue (a && b) → IsTrue a × IsTrue b
and_parts true b h = (refl, h)
and_parts false b h = absurd (cc)

-- ---- the order of listing

pub listing_total : IsTotalOrder listing_cmp
listing_total =
    then_total (on_total (λ s. s.keep) (back_total nat_cmp_total))
    (then_total (on_total (λ s. s.add) nat_cmp_total) (on_total (λ s. s.constants) nat_list_cmp_total))

exact_back : CmpEqualImpliesEq (λ (x y : ℕ). nat_cmp y x)
exact_back x y h = sym (exact_unsigned y x h)

-- summaries that are listed at the same place are equal
pub listing_exact : (s t : Summary) → listing_cmp s t ≡ Equal → s ≡ t
listing_exact s t h =
    let inner = exact_pairs nat_cmp (slice_cmp nat_cmp) exact_unsigned exact_bytes in
    let whole = exact_pairs (λ (x y : ℕ). nat_cmp y x) (λ (x y : ℕ × List ℕ). ordering_then (nat_cmp x.0 y.0) (slice_cmp nat_cmp x.1 y.1)) exact_back inner in
    ap (λ (p : ℕ × (ℕ × List ℕ)). record { keep = p.0; add = p.1.0; constants = p.1.1 }) (whole (s.keep, (s.add, s.constants)) (t.keep, (t.add, t.constants)) h)

-- one of two summaries is listed first, or they are equal
abbrev pub Listed : Summary → Summary → Type 0
Listed s t = IsListedBefore s t ⊎ ((s ≡ t) ⊎ IsListedBefore t s)

pub listed_cases : (s t : Summary) → Listed s t
listed_cases s t = by (listing_cmp s t) refl
  where
    by : (o : Ordering) → listing_cmp s t ≡ o → Listed s t
    by Less e = inl e
    by Equal e = inr (inl (listing_exact s t e))
    by Greater e = inr (inr (flipped (listing_cmp t s) (sym (listing_total.antisymm s t) ∙ e)))
      where
        flipped : (o : Ordering) → ordering_reverse o ≡ Greater → o ≡ Less
        flipped Less h = refl
        flipped Equal h = absurd (cc)
        flipped Greater h = absurd (cc)

-- what is at most is not listed later
AtMost-not_later : (s t : Summary) → AtMost Lexicographic s t → IsListedBefore t s → ⊥
AtMost-not_later s t h k =
    let is : is_le (ordering_then (nat_cmp s.add t.add) (slice_cmp nat_cmp s.constants t.constants)) ≡ true = (adds_lexically s.add t.add s.constants t.constants h.size).1 h.least in
    let keep : nat_cmp t.keep s.keep ≡ Equal = subst (λ n. nat_cmp n s.keep ≡ Equal) h.keep (tied_itself nat_cmp_total s.keep) in
    let le : is_le (listing_cmp s t) ≡ true = rw keep is in
    let gt : listing_cmp s t ≡ Greater = listing_total.antisymm s t ∙ ap ordering_reverse k in
    let bad : false ≡ true = ap is_le (sym gt) ∙ le in
    cc

-- ---- a filter

Contains-cons : {X : Type 0} (x : X) (xs : List X) (y : X) → Contains xs y → Contains (x ∷ xs) y
Contains-cons x xs y (k, l, e) = (suc k, omega arith, e)

filtered_first : {X : Type 0} (p : X → Bool) (x : X) (xs : List X) (y : X) (b : Bool) → p x ≡ b → x ≡ y → p y ≡ true → Contains (cond b (x ∷ xs) xs) y
filtered_first p x xs y true is e h = (0, omega arith, e)
filtered_first p x xs y false is e h = absurd (let q : p x ≡ p y = ap p e in cc)

filtered_rest : {X : Type 0} (x : X) (xs : List X) (y : X) (b : Bool) → Contains xs y → Contains (cond b (x ∷ xs) xs) y
filtered_rest x xs y true h = Contains-cons x xs y h
filtered_rest x xs y false h = h

pub Contains-filter : {X : Type 0} (p : X → Bool) (xs : List X) (y : X) → Contains xs y → p y ≡ true → Contains (filter p xs) y
Contains-filter p [] y (k, l, e) h = absurd (omega arith)
Contains-filter p (x ∷ xs) y (zero, l, e) h = filtered_first p x (filter p xs) y (p x) refl e h
Contains-filter p (x ∷ xs) y (suc k, l, e) h = filtered_rest x (filter p xs) y (p x) (Contains-filter p xs y (k, omega arith, e) h)

pub Contains-from_filter : {X : Type 0} (p : X → Bool) (xs : List X) (y : X) → Contains (filter p xs) y → Contains xs y × (p y ≡ true)
Contains-from_filter {X} p xs y h = (
  All-contains (Contains xs) (filter p xs) y (All-filter p (Contains xs) xs (All-contains_itself xs)) h,
  All-contains (λ x. p x ≡ true) (filter p xs) y (filter_passes p xs) h,
)

-- ---- a summary that is added

is_less : (s t : Summary) → IsTrue (is_lt (listing_cmp s t)) → IsListedBefore s t
is_less s t h = by (listing_cmp s t) refl h
  where
    by : (o : Ordering) → listing_cmp s t ≡ o → is_lt (listing_cmp s t) ≡ true → listing_cmp s t ≡ Less
    by Less e h = e
    by Equal e h = absurd (let bad : false ≡ true = ap is_lt (sym e) ∙ h in cc)
    by Greater e h = absurd (let bad : false ≡ true = ap is_lt (sym e) ∙ h in cc)

AllPairs-joined : (xs ys : List Summary) → AllPairs IsListedBefore xs → AllPairs IsListedBefore ys → All (λ t. All (λ u. IsListedBefore t u) ys) xs → AllPairs IsListedBefore (xs ++ ys)
AllPairs-joined [] ys h k m = k
AllPairs-joined (x ∷ xs) ys h k m =
    AllPairs-cons IsListedBefore x (xs ++ ys)
    (All-append (λ u. IsListedBefore x u) xs ys (λ i d l. h zero (suc i) d (omega arith) (omega arith)) (All-head (λ t. All (λ u. IsListedBefore t u) ys) x xs m))
    (AllPairs-joined xs ys (λ i j d l l'. h (suc i) (suc j) d (omega arith) (omega arith)) k (All-tail (λ t. All (λ u. IsListedBefore t u) ys) x xs m))

module _ (o : TimeOrder) (s : Summary) (list : List Summary) where
  pub with-here : Contains (with_summary o s list) s
  with-here = Contains-append_right (listed_before s list) (s ∷ left_after o s list) s (0, omega arith, refl)

  -- each summary of the new list was there before, or is s
  pub with-from : (t : Summary) → Contains (with_summary o s list) t → Contains list t ⊎ (t ≡ s)
  with-from t h =
      elim (Contains-append_cases (listed_before s list) (s ∷ left_after o s list) t h) [
        | inl p ↦ inl (Contains-from_filter (λ u. is_lt (listing_cmp u s)) list t p).0
        | inr p ↦ elim (Contains-append_cases (s ∷ []) (left_after o s list) t p) [
          | inl q ↦ inr (sym (one q))
          | inr q ↦ inl (Contains-from_filter (λ u. is_lt (listing_cmp s u) && not (at_most o s u)) list t q).0
        ]
      ]
    where
      one : Contains (s ∷ []) t → s ≡ t
      one (zero, l, e) = e
      one (suc k, l, e) = absurd (omega arith)

  -- each summary that was there is still there, or s is at most it
  pub with-kept : (t : Summary) → Contains list t → Contains (with_summary o s list) t ⊎ AtMost o s t
  with-kept t h =
      elim (listed_cases t s) [
        | inl less ↦ inl (Contains-append_left (listed_before s list) (s ∷ left_after o s list) t (Contains-filter (λ u. is_lt (listing_cmp u s)) list t h (ap is_lt less)))
        | inr rest ↦ elim rest [
          | inl same ↦ inl (subst (Contains (with_summary o s list)) (sym same) with-here)
          | inr more ↦ by_test (at_most o s t) refl more
        ]
      ]
    where
      by_test : (b : Bool) → at_most o s t ≡ b → IsListedBefore s t → Contains (with_summary o s list) t ⊎ AtMost o s t
      by_test true is more = inr ((at_most_decided o s t).0 is)
      by_test false is more =
          let passes : (is_lt (listing_cmp s t) && not (at_most o s t)) ≡ true = rw (more, is) refl in
          let in' = Contains-filter (λ u. is_lt (listing_cmp s u) && not (at_most o s u)) list t h passes in
          inl (Contains-append_right (listed_before s list) (s ∷ left_after o s list) t (Contains-cons s (left_after o s list) t in'))

  -- what was covered stays covered
  pub with-covers : (u : Summary) → IsCovered o list u → IsCovered o (with_summary o s list) u
  with-covers u (t, h, m) =
      elim (with-kept t h) [ inl p ↦ (t, p, m) | inr p ↦ (s, with-here, AtMost-trans o s t u p m) ]

  front_less : All (λ t. IsListedBefore t s) (listed_before s list)
  front_less = All-weaker (λ t. is_lt (listing_cmp t s) ≡ true) (λ t. IsListedBefore t s) (λ t h. is_less t s h) (listed_before s list) (filter_passes (λ u. is_lt (listing_cmp u s)) list)

  back_more : All (λ t. IsListedBefore s t) (left_after o s list)
  back_more =
      All-weaker (λ t. (is_lt (listing_cmp s t) && not (at_most o s t)) ≡ true) (λ t. IsListedBefore s t) (λ t h. is_less s t (and_parts (is_lt (listing_cmp s t)) (not (at_most o s t)) h).0) (left_after o s list) (filter_passes (λ u. is_lt (listing_cmp s u) && not (at_most o s u)) list)

  with-ordered : AllPairs IsListedBefore list → AllPairs IsListedBefore (with_summary o s list)
  with-ordered h =
      let front = AllPairs-filter IsListedBefore (λ u. is_lt (listing_cmp u s)) list h in
      let back = AllPairs-cons IsListedBefore s (left_after o s list) back_more (AllPairs-filter IsListedBefore (λ u. is_lt (listing_cmp s u) && not (at_most o s u)) list h) in
      AllPairs-joined (listed_before s list) (s ∷ left_after o s list) front back
      (All-weaker (λ t. IsListedBefore t s) (λ t. All (λ u. IsListedBefore t u) (s ∷ left_after o s list))
      (λ t less. All-cons (λ u. IsListedBefore t u) s (left_after o s list) less (All-weaker (λ u. IsListedBefore s u) (λ u. IsListedBefore t u) (λ u more. listing_total.trans t s u less more) (left_after o s list) back_more))
      (listed_before s list) front_less)

  with-apart : (IsCovered o list s → ⊥) → ((t u : Summary) → Contains list t → Contains list u → AtMost o t u → t ≡ u) → (t u : Summary) → Contains (with_summary o s list) t → Contains (with_summary o s list) u → AtMost o t u → t ≡ u
  with-apart new apart t u h k m =
      elim (with-from t h) [
        | inl p ↦ elim (with-from u k) [ inl q ↦ apart t u p q m | inr q ↦ absurd (new (t, p, subst (AtMost o t) q m)) ]
        | inr p ↦ elim (listed_cases t u) [
          | inr rest ↦ elim rest [ inl same ↦ same | inr less ↦ absurd (AtMost-not_later t u (AtMost-lexical o t u m) less) ]
          | inl less ↦ absurd (none u k (subst (λ v. AtMost o v u) p m) (subst (λ v. IsListedBefore v u) p less))
        ]
      ]
    where
      none : (u : Summary) → Contains (with_summary o s list) u → AtMost o s u → IsListedBefore s u → ⊥
      none u k m less =
          elim (Contains-append_cases (listed_before s list) (s ∷ left_after o s list) u k) [
            | inl p ↦ AtMost-not_later s u (AtMost-lexical o s u m) (is_less u s (Contains-from_filter (λ v. is_lt (listing_cmp v s)) list u p).1)
            | inr p ↦ elim (Contains-append_cases (s ∷ []) (left_after o s list) u p) [
              | inl q ↦ itself (one q)
              | inr q ↦ removed (Contains-from_filter (λ v. is_lt (listing_cmp s v) && not (at_most o s v)) list u q).1
            ]
          ]
        where
          one : Contains (s ∷ []) u → s ≡ u
          one (zero, l, e) = e
          one (suc k, l, e) = absurd (omega arith)

          itself : s ≡ u → ⊥
          itself e = let tied = tied_itself listing_total u in let is : listing_cmp u u ≡ Less = subst (λ v. listing_cmp v u ≡ Less) e less in let bad : Less ≡ Equal = sym is ∙ tied in cc

          removed : (is_lt (listing_cmp s u) && not (at_most o s u)) ≡ true → ⊥
          removed h =
              let second = (and_parts (is_lt (listing_cmp s u)) (not (at_most o s u)) h).1 in
              let yes : at_most o s u ≡ true = (at_most_decided o s u).1 m in
              let bad : false ≡ true = sym (ap not yes) ∙ second in
              cc

  -- a neat list stays neat, if s was not covered
  pub with-neat : (IsCovered o list s → ⊥) → IsNeat o list → IsNeat o (with_summary o s list)
  with-neat new h = record { ordered = with-ordered h.ordered; apart = with-apart new h.apart }
