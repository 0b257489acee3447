-- What the invariant says to a reader of a view.
use Rattle.std.proofs.Common.{◌≡◌, ℕ, zero, suc, ◌<◌, ◌≤◌, ◌⊎◌, inl, inr, refl, ◌∙◌, arith, ℤ, pos, ◌+ℤ◌, ◌≤ℤ◌}
use Rattle.std.proofs.lemmas.Int.{ints}
use Rattle.nd_protocol.proofs.Core.{IsStrictOrder, IsFinite, IsHeld, Reading, pending, IsSound, Steps, IsDownward}
use Rattle.nd_protocol.specs.Invariant.{total}
use Rattle.nd_delta.specs.Upright.{IsUpright}
use Rattle.nd_protocol.proofs.UprightSums.{finite_sum, finite_total, upright_total}
use Rattle.nd_protocol.proofs.Preservation.{finite_pending}
use Rattle.nd_protocol.proofs.Descent.{induction}

pub zero_or_more : (n : ℕ) → (n ≡ 0) ⊎ (0 < n)
zero_or_more zero = inl refl
zero_or_more (suc n) = inr (omega arith)

module _ {P C : Type 0} (R : P → P → Type 0) (o : IsStrictOrder R) (at : C → P → ℤ) (finite : (c : C) → IsFinite (at c)) where
  -- what is on its way to q
  coming : Reading P C → ℕ → P → ℤ
  coming r q x = total r.n (λ p. pending R at r p q 0 x)

  coming_finite : (r : Reading P C) (q : ℕ) → IsFinite (coming r q)
  unfolding coming
  coming_finite r q = finite_total r.n (λ p. pending R at r p q 0) (λ p. finite_pending R o at finite r p q 0)

  coming_upright : (r : Reading P C) → IsSound R at r → (q : ℕ) → q < r.n → IsUpright R (λ y. (p : ℕ) × (p < r.n) × IsHeld r p y) (coming r q)
  unfolding coming
  coming_upright r sound q h =
      upright_total R o (IsHeld r) r.n (λ p. pending R at r p q 0) (λ p. finite_pending R o at finite r p q 0)
      (λ p l. sound.upright p q 0 l h (omega arith))

  balanced : (r : Reading P C) → IsSound R at r → (q : ℕ) → q < r.n → (x : P) → pos (r.truth x) ≡ (at (r.view q) x +ℤ coming r q x)
  unfolding coming
  balanced r sound q h x = sound.balance q h x

  module _ (D : P → Type 0) (down : IsDownward R D) where
    -- if the view has nothing positive in D, nothing is outstanding in D
    pub safe : (r : Reading P C) → IsSound R at r → (q : ℕ) → q < r.n → ((x : P) → D x → at (r.view q) x ≤ℤ pos 0) → (x : P) → D x → r.truth x ≡ 0
    safe r sound q h quiet x dx =
        let f : IsFinite (λ y. at (r.view q) y +ℤ coming r q y) = finite_sum (at (r.view q)) (coming r q) (finite (r.view q)) (coming_finite r q) in
        let Q : P → Type 0 = λ y. D y × (0 < r.truth y) in
        let no : (y : P) → Q y → ⊥
        = induction o Q (λ y. ⊥) f.0
        (λ y k. f.1 y (λ e. let b : pos (r.truth y) ≡ (at (r.view q) y +ℤ coming r q y) = balanced r sound q h y in let m : 0 < r.truth y = k.1 in omega (arith, ints)))
        (λ y k earlier.
        let b : pos (r.truth y) ≡ (at (r.view q) y +ℤ coming r q y) = balanced r sound q h y in
        let v : at (r.view q) y ≤ℤ pos 0 = quiet y k.0 in
        let m : 0 < r.truth y = k.1 in
        let (z, less, why) = coming_upright r sound q h y (omega (arith, ints)) in
        let dz : D z = down z y less k.0 in
        elim why [
          | inl low ↦
              let b' : pos (r.truth z) ≡ (at (r.view q) z +ℤ coming r q z) = balanced r sound q h z in
              let v' : at (r.view q) z ≤ℤ pos 0 = quiet z dz in
              omega (arith, ints)
          | inr (p, l, held) ↦ earlier z less (dz, (let c : r.supports p z ≤ r.truth z = sound.counted p l z in omega arith))
        ]) in
        elim (zero_or_more (r.truth x)) [ inl e ↦ e | inr m ↦ absurd (no x (dx, m)) ]

    -- if nothing is outstanding in D, nothing is after a step
    pub stays : (r s : Reading P C) → Steps R at r s → IsSound R at r → ((x : P) → D x → r.truth x ≡ 0) → (x : P) → D x → s.truth x ≡ 0
    stays r s (inl (p, d, step)) sound none x dx =
        elim (zero_or_more (s.truth x)) [
          | inl e ↦ e
          | inr m ↦
              let t : pos (s.truth x) ≡ (pos (r.truth x) +ℤ d x) = step.adds.truth x in
              let e : r.truth x ≡ 0 = none x dx in
              let (z, less, why) = step.justified x (omega (arith, ints)) in
              let dz : D z = down z x less dx in
              let e' : r.truth z ≡ 0 = none z dz in
              let t' : pos (s.truth z) ≡ (pos (r.truth z) +ℤ d z) = step.adds.truth z in
              elim why [
                | inl low ↦ absurd (omega (arith, ints))
                | inr held ↦ let c : r.supports p z ≤ r.truth z = sound.counted p step.adds.here z in absurd (omega arith)
              ]
        ]
    stays r s (inr (inl (p, c, step))) sound none x dx = step.truth x ∙ none x dx
    stays r s (inr (inr (p, q, c, step))) sound none x dx = step.truth x ∙ none x dx
