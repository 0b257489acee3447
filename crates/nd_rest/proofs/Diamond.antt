-- Steps of which any two that are allowed lead on to a common place, one step each: all ways to an end are as long, and lead to it.
use Rattle.std.proofs.Common.{◌≡◌, ◌⊎◌, inl, inr, ℕ, zero, suc, refl, sym, subst}

module _ {C X : Type 0} (Allowed : C → X → Type 0) (next : C → X → C) where
  -- n steps lead from c to d
  abbrev pub Leads : ℕ → C → C → Type 0
  Leads zero c d = c ≡ d
  Leads (suc n) c d = (x : X) × Allowed c x × Leads n (next c x) d

  -- nothing is allowed
  abbrev pub IsEnd : C → Type 0
  IsEnd c = (x : X) → Allowed c x → ⊥

  -- two steps lead to the same place, or each is still allowed after the other, and their order does not matter
  abbrev pub Meets : C → X → X → Type 0
  Meets c x y = (next c x ≡ next c y) ⊎ (Allowed (next c x) y × Allowed (next c y) x × (next (next c x) y ≡ next (next c y) x))

  module _ (meets : (c : C) (x y : X) → Allowed c x → Allowed c y → Meets c x y) where
    -- a way to an end can begin with any step that is allowed
    pub front : (n : ℕ) (c d : C) (y : X) → Leads n c d → IsEnd d → Allowed c y → (m : ℕ) × (n ≡ suc m) × Leads m (next c y) d
    front zero c d y e end ok = absurd (subst IsEnd (sym e) end y ok)
    front (suc n) c d y way end ok =
        elim (meets c way.0 y way.1 ok) [
          | inl same ↦ (n, refl, subst (λ b. Leads n b d) same way.2)
          | inr both ↦
              let rest = front n (next c way.0) d y way.2 end both.0 in
              let after : Leads (suc rest.0) (next c y) d = (way.0, both.1, subst (λ b. Leads rest.0 b d) both.2 rest.2) in
              (n, refl, subst (λ k. Leads k (next c y) d) (sym rest.1) after)
        ]
