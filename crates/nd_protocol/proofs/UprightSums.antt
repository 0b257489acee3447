-- Sums of upright changes are upright.
use Rattle.std.proofs.Common.{◌≡◌, ℕ, zero, suc, ◌<◌, ◌⊎◌, inl, inr, List, [], ◌∷◌, ◌++◌, refl, sym, subst, arith, ℤ, pos, ◌+ℤ◌, ◌<ℤ◌}
use Rattle.std.proofs.lemmas.Int.{ints, by_lt_z}
use Rattle.nd_protocol.proofs.Core.{IsStrictOrder, IsIn, IsFinite}
use Rattle.nd_protocol.specs.Invariant.{total}
use Rattle.nd_delta.specs.Upright.{IsSupported, IsUpright}
use Rattle.nd_protocol.proofs.Descent.{induction}
use Rattle.nd_map.specs.Cases.{zero_or_not}

pub in_left : {P : Type 0} (xs ys : List P) (x : P) → IsIn xs x → IsIn (xs ++ ys) x
in_left [] ys x h = absurd h
in_left (z ∷ zs) ys x (inl e) = inl e
in_left (z ∷ zs) ys x (inr h) = inr (in_left zs ys x h)

pub in_right : {P : Type 0} (xs ys : List P) (x : P) → IsIn ys x → IsIn (xs ++ ys) x
in_right [] ys x h = h
in_right (z ∷ zs) ys x h = inr (in_right zs ys x h)

pub finite_zero : {P : Type 0} → IsFinite {P = P} (λ x. pos 0)
finite_zero = ([], λ x h. h refl)

pub finite_sum : {P : Type 0} (f g : P → ℤ) → IsFinite f → IsFinite g → IsFinite (λ x. f x +ℤ g x)
finite_sum f g (s, hs) (t, ht) = (
  s ++ t,
  λ x h. elim (zero_or_not (f x)) [
    | inl e ↦ in_right s t x (ht x (λ e'. h (omega (arith, ints))))
    | inr ne ↦ in_left s t x (hs x ne)
  ],
)

pub finite_total : {P : Type 0} (n : ℕ) (f : ℕ → P → ℤ) → ((p : ℕ) → IsFinite (f p)) → IsFinite (λ x. total n (λ p. f p x))
finite_total zero f h = finite_zero
finite_total (suc n) f h = finite_sum (λ x. total n (λ p. f p x)) (f n) (finite_total n f h) (h n)

pub upright_same : {P : Type 0} (R : P → P → Type 0) (H : P → Type 0) (f g : P → ℤ) → ((x : P) → g x ≡ f x) → IsUpright R H f → IsUpright R H g
upright_same R H f g same up x h =
    let (y, r, why) = up x (subst (λ v. pos 0 <ℤ v) (same x) h) in
    (y, r, elim why [ inl low ↦ inl (subst (λ v. v <ℤ pos 0) (sym (same y)) low) | inr held ↦ inr held ])

pub upright_wider : {P : Type 0} (R : P → P → Type 0) (H K : P → Type 0) (f : P → ℤ) → ((y : P) → H y → K y) → IsUpright R H f → IsUpright R K f
upright_wider R H K f more up x h =
    let (y, r, why) = up x h in
    (y, r, elim why [ inl low ↦ inl low | inr held ↦ inr (more y held) ])

module _ {P : Type 0} (R : P → P → Type 0) (o : IsStrictOrder R) (H K : P → Type 0) (f g : P → ℤ) (moved : (y : P) → H y → K y ⊎ (g y <ℤ pos 0)) where
  -- an earlier point at which one of the two is negative, or which is held, is support, or leads to support
  settled : (x y : P) → R y x → (f y <ℤ pos 0) ⊎ ((g y <ℤ pos 0) ⊎ K y)
      → ((z : P) → R z x → (pos 0 <ℤ f z) ⊎ (pos 0 <ℤ g z) → IsSupported R K (λ v. f v +ℤ g v) z)
      → IsSupported R K (λ v. f v +ℤ g v) x
  settled x y r why earlier =
      let later : IsSupported R K (λ v. f v +ℤ g v) y → IsSupported R K (λ v. f v +ℤ g v) x
      = λ s. (s.0, o.transitive s.0 y x s.1 r, s.2) in
      elim why [
        | inl low ↦ by_lt_z (f y +ℤ g y) (pos 0) (λ h. (y, r, inl h)) (λ h. later (earlier y r (inr (omega (arith, ints)))))
        | inr rest ↦ elim rest [
          | inl low ↦ by_lt_z (f y +ℤ g y) (pos 0) (λ h. (y, r, inl h)) (λ h. later (earlier y r (inl (omega (arith, ints)))))
          | inr held ↦ (y, r, inr held)
        ]
      ]

  one_step : IsUpright R H f → IsUpright R H g → (x : P) → (pos 0 <ℤ f x) ⊎ (pos 0 <ℤ g x)
      → ((z : P) → R z x → (pos 0 <ℤ f z) ⊎ (pos 0 <ℤ g z) → IsSupported R K (λ v. f v +ℤ g v) z)
      → IsSupported R K (λ v. f v +ℤ g v) x
  one_step uf ug x (inl h) earlier =
      let (y, r, why) = uf x h in
      settled x y r (elim why [ inl low ↦ inl low | inr held ↦ elim (moved y held) [ inl k ↦ inr (inr k) | inr low ↦ inr (inl low) ] ]) earlier
  one_step uf ug x (inr h) earlier =
      let (y, r, why) = ug x h in
      settled x y r (elim why [ inl low ↦ inr (inl low) | inr held ↦ elim (moved y held) [ inl k ↦ inr (inr k) | inr low ↦ inr (inl low) ] ]) earlier

  -- the sum of two upright functions is upright, even if the second changes what is held from H to K
  pub upright_sum : IsFinite f → IsFinite g → IsUpright R H f → IsUpright R H g → IsUpright R K (λ v. f v +ℤ g v)
  upright_sum (s, hs) (t, ht) uf ug x h =
      let Q : P → Type 0 = λ y. (pos 0 <ℤ f y) ⊎ (pos 0 <ℤ g y) in
      induction o Q (IsSupported R K (λ v. f v +ℤ g v)) (s ++ t)
      (λ y q. elim q [
        | inl p ↦ in_left s t y (hs y (λ e. omega (arith, ints)))
        | inr p ↦ in_right s t y (ht y (λ e. omega (arith, ints)))
      ])
      (one_step uf ug) x
      (by_lt_z (pos 0) (f x) (λ p. inl p) (λ p. inr (omega (arith, ints))))

-- the sum over the processors is upright, given what any of them holds
pub upright_total : {P : Type 0} (R : P → P → Type 0) → IsStrictOrder R → (H : ℕ → P → Type 0) (n : ℕ) (f : ℕ → P → ℤ)
    → ((p : ℕ) → IsFinite (f p)) → ((p : ℕ) → p < n → IsUpright R (H p) (f p))
    → IsUpright R (λ y. (p : ℕ) × (p < n) × H p y) (λ x. total n (λ p. f p x))
upright_total R o H zero f fin up = λ x h. absurd (omega (arith, ints))
upright_total {P = P} R o H (suc n) f fin up =
    let K : P → Type 0 = λ y. (p : ℕ) × (p < suc n) × H p y in
    upright_sum R o K K (λ x. total n (λ p. f p x)) (f n) (λ y k. inl k)
    (finite_total n f fin) (fin n)
    (upright_wider R (λ y. (p : ℕ) × (p < n) × H p y) K (λ x. total n (λ p. f p x)) (λ y k. (k.0, omega arith, k.2))
    (upright_total R o H n f fin (λ p l. up p (omega arith))))
    (upright_wider R (H n) K (f n) (λ y k. (n, omega arith, k)) (up n (omega arith)))
