-- Finitely many points have a minimal one.
use Rattle.std.proofs.Common.{◌≡◌, ◌⊎◌, inl, inr, zero, suc, List, [], ◌∷◌, refl, sym, subst, arith}
use Rattle.std.specs.Prelude.{Contains}
use Rattle.std.proofs.lemmas.List.Elements.{Contains-append_cases, Contains-append_right}
use Rattle.nd_graph.specs.Graph.{Dataflow}
use Rattle.nd_paths.specs.declared.point.Pointstamp.{Pointstamp}
use Rattle.nd_paths.specs.Order.{IsStrictlyBefore}
use Rattle.nd_paths.specs.Laws.{IsMinimalAmong}

one_contained : {A : Type 0} (x y : A) → Contains (x ∷ []) y → x ≡ y
one_contained x y (zero, l, e) = e
one_contained x y (suc k, l, e) = absurd (omega arith)

-- an element of a list that is not empty, such that no other element is below it
minimal : {A : Type 0} (lt : A → A → Type 0) → ((x y : A) → lt x y ⊎ (lt x y → ⊥)) → ((x : A) → lt x x → ⊥) → ((x y z : A) → lt x y → lt y z → lt x z) → (x : A) (xs : List A) → (m : A) × Contains (x ∷ xs) m × ((y : A) → Contains (x ∷ xs) y → lt y m → ⊥)
minimal {A} lt dec irr tr x [] = (x, (0, omega arith, refl), λ y h k. irr x (subst (λ z. lt z x) (sym (one_contained x y h)) k))
minimal {A} lt dec irr tr x (z ∷ zs) = least_with (minimal lt dec irr tr z zs)
  where
    least_with : (m : A) × Contains (z ∷ zs) m × ((y : A) → Contains (z ∷ zs) y → lt y m → ⊥) → (m : A) × Contains (x ∷ z ∷ zs) m × ((y : A) → Contains (x ∷ z ∷ zs) y → lt y m → ⊥)
    least_with (m, i, low) =
        elim (dec x m) [
          | inl l ↦ (
            x,
            (0, omega arith, refl),
            λ y h k. elim (Contains-append_cases (x ∷ []) (z ∷ zs) y h) [
              | inl e ↦ irr x (subst (λ v. lt v x) (sym (one_contained x y e)) k)
              | inr f ↦ low y f (tr y x m k l)
            ],
          )
          | inr n ↦ (
            m,
            Contains-append_right (x ∷ []) (z ∷ zs) m i,
            λ y h k. elim (Contains-append_cases (x ∷ []) (z ∷ zs) y h) [
              | inl e ↦ n (subst (λ v. lt v m) (sym (one_contained x y e)) k)
              | inr f ↦ low y f k
            ],
          )
        ]

-- among finitely many points there is one such that no other is before it
pub minimal_point : (g : Dataflow) → ((s t : Pointstamp) → IsStrictlyBefore g s t ⊎ (IsStrictlyBefore g s t → ⊥)) → ((s t u : Pointstamp) → IsStrictlyBefore g s t → IsStrictlyBefore g t u → IsStrictlyBefore g s u) → (p : Pointstamp) (ps : List Pointstamp) → (m : Pointstamp) × IsMinimalAmong g (p ∷ ps) m
minimal_point g dec trans p ps =
    let (m, i, low) = minimal (IsStrictlyBefore g) dec (λ x k. k.1 refl) trans p ps in
    (m, record { among = i; none = low })
