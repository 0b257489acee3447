-- The minimal ones among times that are listed by epoch and then by counters, found time by time.
use Rattle.std.proofs.Common.{Ordering, Less, Equal, Greater, false, true≢false, ◌≡◌, ◌⊎◌, ◌+◌, ◌≤◌, ◌<◌, ℕ, List, [], ◌∷◌, ◌++◌, length, get_or, refl, sym, ap, subst, ◌∙◌, inl, inr, arith}
use Rattle.std.specs.Prelude.{Contains, IsSorted}
use Rattle.std.specs.Ordering.{is_lt, is_gt, ordering_reverse}
use Rattle.std.specs.Cmp.{IsStrictWeakOrder}
use Rattle.std.proofs.lemmas.Bool.{cases_lt}
use Rattle.std.proofs.lemmas.List.{get_or_default, get_or_append_left, get_or_push, length_push}
use Rattle.std.proofs.lemmas.List.Elements.{Contains-append_left, Contains-append_right}
use Rattle.std.proofs.lemmas.List.Sorted.{sorted_far, ranks_by}
use Rattle.nd_time.specs.Time.{Time}
use Rattle.nd_time.specs.Order.{IsAtOrBeforeBy}
use Rattle.nd_time.specs.declared.order.TimeOrder.{TimeOrder}
use Rattle.nd_time.specs.Listing.{time_cmp, time_total, time_exact}
use Rattle.nd_paths.specs.Arrival.{HasAtOrBefore}
use Rattle.nd_view.specs.Arrivals.{AreApart, AreRising, AreMinimal}
use Rattle.nd_view.proofs.TimeOrder.{before_itself, listed_before}

-- ---- listed in order

back_gt : (o r : Ordering) → o ≡ ordering_reverse r → is_lt o ≡ false → is_gt r ≡ false
back_gt Less r e h = absurd (true≢false h)
back_gt Equal Less e h = refl
back_gt Equal Equal e h = refl
back_gt Equal Greater e h = absurd (cc (e))
back_gt Greater Less e h = refl
back_gt Greater Equal e h = refl
back_gt Greater Greater e h = absurd (cc (e))

listing : IsStrictWeakOrder (λ s t. is_lt (time_cmp s t))
listing = ranks_by time_total (λ t. t)

less_or_tied : (o : Ordering) → is_gt o ≡ false → (o ≡ Equal → ⊥) → o ≡ Less
less_or_tied Less h n = refl
less_or_tied Equal h n = absurd (n refl)
less_or_tied Greater h n = absurd (true≢false h)

reversed_less : (o r : Ordering) → o ≡ ordering_reverse r → o ≡ Less → is_gt r ≡ false → ⊥
reversed_less o Less e l h = cc (e, l)
reversed_less o Equal e l h = cc (e, l)
reversed_less o Greater e l h = true≢false h

module _ (order : TimeOrder) (ts : List Time) where
  -- the result for the first times
  pub record IsKeptUpTo (i : ℕ) (kept : List Time) : Type 0 where
    pub from : (k : ℕ) (d : Time) → k < length kept → (m : ℕ) × (m < i) × (m < length ts) × (get_or kept k d ≡ get_or ts m d)
    pub covers : (m : ℕ) (d : Time) → m < i → m < length ts → HasAtOrBefore order kept (get_or ts m d)
    pub apart : AreApart order kept
    pub rising : AreRising kept

  module _ (sorted : IsSorted time_cmp ts) (i : ℕ) (t : Time) (lt : i < length ts) (is : t ≡ get_or ts i t) (kept : List Time) (h : IsKeptUpTo i kept) where
    -- each time of the result is listed no later than the next time, and has its depth
    earlier : (k : ℕ) (d : Time) → k < length kept → is_gt (time_cmp (get_or kept k d) t) ≡ false
    earlier k d less =
        let (m, early, within, same) = h.from k d less in
        let far : is_lt (time_cmp (get_or ts i d) (get_or ts m d)) ≡ false = sorted_far (λ s u. is_lt (time_cmp s u)) listing ts sorted m i d (omega (arith, early)) lt in
        let next : get_or ts i d ≡ t = get_or_default ts i d t lt ∙ sym is in
        subst (λ s. is_gt (time_cmp s t) ≡ false) (sym same) (subst (λ u. is_gt (time_cmp (get_or ts m d) u) ≡ false) next (back_gt _ _ (time_total.antisymm (get_or ts i d) (get_or ts m d)) far))

    later : (k : ℕ) (d : Time) → k < length kept → (m : ℕ) × (m < i + 1) × (m < length ts) × (get_or kept k d ≡ get_or ts m d)
    later k d less = let (m, early, within, same) = h.from k d less in (m, omega (arith, early), within, same)

    -- if a time of the result is at or before the next time, the result stays
    pub kept_skip : HasAtOrBefore order kept t → IsKeptUpTo (i + 1) kept
    kept_skip has = record {
      from = later;
      covers = λ m d early within. elim (cases_lt m i) [
        | inl l ↦ h.covers m d l within
        | inr l ↦
            let same : m ≡ i = omega (arith, early, l) in
            subst (HasAtOrBefore order kept) (is ∙ get_or_default ts i t d lt ∙ ap (λ k. get_or ts k d) (sym same)) has
      ];
      apart = h.apart;
      rising = h.rising;
    }

    -- if none is, the next time is added
    module _ (not : HasAtOrBefore order kept t → ⊥) (more : List Time) (more_is : more ≡ kept ++ t ∷ []) where
      long : length more ≡ length kept + 1
      long = ap length more_is ∙ length_push kept t

      old : (k : ℕ) (d : Time) → k < length kept → get_or more k d ≡ get_or kept k d
      old k d less = ap (λ l. get_or l k d) more_is ∙ get_or_append_left kept (t ∷ []) d k less

      new : (k : ℕ) (d : Time) → k ≡ length kept → get_or more k d ≡ t
      new k d at' = ap (λ l. get_or l k d) more_is ∙ get_or_push kept t d k (sym at')

      split : (k : ℕ) → k < length more → (k < length kept) ⊎ (k ≡ length kept)
      split k less = elim (cases_lt k (length kept)) [ inl l ↦ inl l | inr l ↦ inr (omega (arith, less, l, long)) ]

      never : (k : ℕ) (d : Time) → k < length kept → IsAtOrBeforeBy order (get_or kept k d) t → ⊥
      never k d less before = not (get_or kept k d, (k, less, get_or_default kept k (get_or kept k d) d less), before)

      rises : (k : ℕ) (d : Time) → k < length kept → time_cmp (get_or kept k d) t ≡ Less
      rises k d less = less_or_tied (time_cmp (get_or kept k d) t) (earlier k d less) (λ e. never k d less (subst (IsAtOrBeforeBy order (get_or kept k d)) (time_exact (get_or kept k d) t e) (before_itself order (get_or kept k d))))

      back : (k : ℕ) (d : Time) → k < length kept → IsAtOrBeforeBy order t (get_or kept k d) → ⊥
      back k d less before = reversed_less (time_cmp (get_or kept k d) t) (time_cmp t (get_or kept k d)) (time_total.antisymm (get_or kept k d) t) (rises k d less) (listed_before order t (get_or kept k d) before)

      apart_more : AreApart order more
      apart_more j k d lj lk before = elim (split j lj) [
        | inl oj ↦ elim (split k lk) [
          | inl ok ↦ h.apart j k d oj ok (subst (λ s. IsAtOrBeforeBy order s (get_or kept k d)) (old j d oj) (subst (IsAtOrBeforeBy order (get_or more j d)) (old k d ok) before))
          | inr nk ↦ absurd (never j d oj (subst (λ s. IsAtOrBeforeBy order s t) (old j d oj) (subst (IsAtOrBeforeBy order (get_or more j d)) (new k d nk) before)))
        ]
        | inr nj ↦ elim (split k lk) [
          | inl ok ↦ absurd (back k d ok (subst (λ s. IsAtOrBeforeBy order s (get_or kept k d)) (new j d nj) (subst (IsAtOrBeforeBy order (get_or more j d)) (old k d ok) before)))
          | inr nk ↦ nj ∙ sym nk
        ]
      ]

      rising_more : AreRising more
      rising_more j k d less lk = elim (split k lk) [
        | inl ok ↦ (let oj : j < length kept = omega (arith, less, ok) in (λ l. time_cmp (old j d oj l) (old k d ok l)) ∙ h.rising j k d less ok)
        | inr nk ↦ (let oj : j < length kept = omega (arith, less, nk) in (λ l. time_cmp (old j d oj l) (new k d nk l)) ∙ rises j d oj)
      ]

      pub kept_one : IsKeptUpTo (i + 1) more
      kept_one = record {
        from = λ k d less. elim (split k less) [
          | inl o ↦ (let (m, early, within, same) = later k d o in (m, early, within, old k d o ∙ same))
          | inr n ↦ (i, omega arith, lt, new k d n ∙ is ∙ get_or_default ts i t d lt)
        ];
        covers = λ m d early within. elim (cases_lt m i) [
          | inl l ↦ (let (u, among, before) = h.covers m d l within in (u, subst (λ l'. Contains l' u) (sym more_is) (Contains-append_left kept (t ∷ []) u among), before))
          | inr l ↦
              let same : m ≡ i = omega (arith, early, l) in
              subst (HasAtOrBefore order more) (is ∙ get_or_default ts i t d lt ∙ ap (λ k. get_or ts k d) (sym same)) (t, subst (λ l'. Contains l' t) (sym more_is) (Contains-append_right kept (t ∷ []) t (0, omega arith, refl)), before_itself order t)
        ];
        apart = apart_more;
        rising = rising_more;
      }

  pub kept_all : (i : ℕ) (kept : List Time) → length ts ≤ i → IsKeptUpTo i kept → AreMinimal order ts kept
  kept_all i kept past h = record {
    among = λ k d less. let (m, early, within, same) = h.from k d less in (m, within, get_or_default ts m (get_or kept k d) d within ∙ sym same);
    covers = λ t among.
        let (m, within, same) = among in
        subst (HasAtOrBefore order kept) same (h.covers m t (omega (arith, within, past)) within);
    apart = h.apart;
    rising = h.rising;
  }
