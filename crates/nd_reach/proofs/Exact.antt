-- What follows from the first states that are reached, of lists of moves of any length.
use Rattle.std.proofs.Common.{◌≡◌, ◌∙◌, inl, inr, ◌⊎◌, ℕ, ◌<◌, ◌≤◌, Bool, true, false, List, [], ◌∷◌, ◌++◌, length, refl, sym, ap, subst, arith, length-append, Some}
use Rattle.std.specs.Prelude.{slice_get, All}
use Rattle.std.proofs.lemmas.Option.{slice_get-get_or, get_or_from_slice_get}
use Rattle.nd_protocol.specs.State.{ClusterState}
use Rattle.nd_protocol.specs.declared.step.Step.{Step}
use Rattle.nd_breaks.specs.Conditions.{ConditionValue, Holds}
use Rattle.nd_reach.specs.Ways.{IsWay, IsLess, IsCovered, AreFirst}
use Rattle.nd_reach.specs.Reach.{HoldsAfter, HoldsNowhere, IsReached, IsNotReachedIn, IsExact}
use Rattle.nd_cluster.specs.declared.moves.Allowed.{Allowed}
use Rattle.nd_reach.specs.declared.reached.Reached.{Reached}
use Rattle.nd_reach.specs.declared.reached.Reached.TheVariants.{Way, Nowhere}
use Rattle.nd_reach.proofs.Places.{last_here, old_or_new, within_list, last_of}
use Rattle.nd_reach.proofs.Order.{most_length}

module _ {A : Type 0} (allowed : Allowed) (when : ConditionValue) (s : ClusterState) where
  -- the condition does not hold where a way leads to which one of these is as good
  not_covered : (ways : List (List (Step A))) (xs : List (Step A)) → HoldsNowhere when s ways → IsCovered allowed s ways xs → HoldsAfter when s xs → ⊥
  not_covered ways xs none c there =
      let here : HoldsAfter when s c.1 = subst (λ t. Holds t when) (sym c.4.0) there in
      none c.0 c.1 c.2 (subst (HoldsAfter when s) (sym c.3) here)

  -- a way that is at least as long as the last of some
  not_shorter : (earlier : List (List (Step A))) (last xs : List (Step A)) → All (λ w. IsLess allowed s w xs) (earlier ++ last ∷ []) → length xs < length last → ⊥
  not_shorter earlier last xs less lt =
      let at : slice_get (earlier ++ last ∷ []) (length earlier) ≡ Some last = last_here earlier last in
      let within = within_list (earlier ++ last ∷ []) (length earlier) last at in
      let one : IsLess allowed s last xs =
      subst (λ w. IsLess allowed s w xs) (get_or_from_slice_get (earlier ++ last ∷ []) (length earlier) last last at) (less (length earlier) last within) in
      absurd (omega (arith, lt, most_length allowed s last xs (inr one)))

  shortest : (earlier : List (List (Step A))) (steps : List (Step A)) → AreFirst allowed s (earlier ++ steps ∷ []) → HoldsNowhere when s earlier
      → IsNotReachedIn A allowed when s (length steps)
  shortest earlier steps first none xs way lt there = by_others (first.others xs way)
    where
      by_place : (c : IsCovered allowed s (earlier ++ steps ∷ []) xs) → (slice_get earlier c.0 ≡ Some c.1) ⊎ ((c.0 ≡ length earlier) × (steps ≡ c.1)) → ⊥
      by_place c (inl old) =
          let here : HoldsAfter when s c.1 = subst (λ t. Holds t when) (sym c.4.0) there in
          let within = within_list earlier c.0 c.1 old in
          none c.0 c.1 within (subst (HoldsAfter when s) (sym (get_or_from_slice_get earlier c.0 c.1 c.1 old)) here)
      by_place c (inr is) =
          let same : length steps ≡ length c.1 = ap length is.1 in
          absurd (omega (arith, lt, same, most_length allowed s c.1 xs c.4.1))

      by_others : IsCovered allowed s (earlier ++ steps ∷ []) xs ⊎ All (λ w. IsLess allowed s w xs) (earlier ++ steps ∷ []) → ⊥
      by_others (inl c) = by_place c (old_or_new earlier steps c.1 c.0 (slice_get-get_or (earlier ++ steps ∷ []) c.0 c.1 c.2 ∙ ap Some c.3))
      by_others (inr less) = not_shorter earlier steps xs less lt

  not_yet : (earlier : List (List (Step A))) (last : List (Step A)) → AreFirst allowed s (earlier ++ last ∷ []) → HoldsNowhere when s (earlier ++ last ∷ [])
      → IsNotReachedIn A allowed when s (length last)
  not_yet earlier last first none xs way lt there = by_others (first.others xs way)
    where
      by_others : IsCovered allowed s (earlier ++ last ∷ []) xs ⊎ All (λ w. IsLess allowed s w xs) (earlier ++ last ∷ []) → ⊥
      by_others (inl c) = not_covered (earlier ++ last ∷ []) xs none c there
      by_others (inr less) = not_shorter earlier last xs less lt

  pub way_exact : (limit : ℕ) (steps : List (Step A)) → IsReached allowed when limit s (Way steps) → IsExact allowed when s (Way steps)
  way_exact limit steps h =
      let at : slice_get (h.earlier ++ steps ∷ []) (length h.earlier) ≡ Some steps = last_here h.earlier steps in
      let within = within_list (h.earlier ++ steps ∷ []) (length h.earlier) steps at in
      let way : IsWay allowed s steps =
      subst (IsWay allowed s) (get_or_from_slice_get (h.earlier ++ steps ∷ []) (length h.earlier) steps steps at) (h.first.each (length h.earlier) steps within) in
      record { way = way; there = h.there; shortest = shortest h.earlier steps h.first h.none }

  -- the start is among the states that were looked at
  not_none : (limit states : ℕ) (whole : Bool) (h : IsReached {A = A} allowed when limit s (Nowhere states whole)) → 1 ≤ limit → length h.ways ≡ 0 → ⊥
  not_none limit states true h some none =
      let c = h.all.0 refl [] tt in
      absurd (omega (arith, none, c.2))
  not_none limit states false h some none = absurd (omega (arith, some, none, h.count, h.full refl))

  pub nowhere_exact : (limit states : ℕ) (whole : Bool) → 1 ≤ limit → IsReached {A = A} allowed when limit s (Nowhere states whole) → IsExact {A = A} allowed when s (Nowhere states whole)
  nowhere_exact limit states whole some h = by_last (last_of h.ways)
    where
      by_last : (h.ways ≡ []) ⊎ ((earlier : List (List (Step A))) × (last : List (Step A)) × (h.ways ≡ earlier ++ last ∷ [])) → IsExact {A = A} allowed when s (Nowhere states whole)
      by_last (inl none) = absurd (not_none limit states whole h some (ap length none))
      by_last (inr is) = record {
        never = λ all xs way there. not_covered h.ways xs h.none (h.all.0 all xs way) there;
        earlier = is.0;
        last = is.1;
        looked_at = subst (AreFirst allowed s) is.2 h.first;
        count = omega (arith, h.count, ap length is.2, length-append is.0 (is.1 ∷ []));
        not_yet = not_yet is.0 is.1 (subst (AreFirst allowed s) is.2 h.first) (subst (HoldsNowhere when s) is.2 h.none);
      }

  pub exact : (limit : ℕ) → 0 < limit → (answer : Reached A) → IsReached allowed when limit s answer → IsExact allowed when s answer
  exact limit some (Way steps) h = way_exact limit steps h
  exact limit some (Nowhere states whole) h = nowhere_exact limit states whole some h
