-- Lists, element by element.
use Rattle.std.proofs.Common.{◌≡◌, ◌<◌, ◌⊎◌, ℕ, zero, suc, List, [], ◌∷◌, ◌++◌, All, Some, length, map, take, drop, slice_get, inl, inr, refl, sym, ap, subst, ◌∙◌, arith}
use Rattle.std.proofs.lemmas.List.{take-append-le, take_all}
use Rattle.std.proofs.lemmas.List.Elements.{All-nil, All-append}

pub length_of : {Y Z : Type 0} (h : Y → Z) (ys : List Y) → length (map h ys) ≡ length ys
length_of h [] = refl
length_of h (y ∷ ys) = ap suc (length_of h ys)

module _ {X : Type 0} where
  single : (P : X → Type 0) (x : X) → P x → All P (x ∷ [])
  single P x here zero d lt = here
  single P x here (suc k) d lt = absurd (omega (arith, lt))

  pub all_none : (P : X → Type 0) (xs : List X) → xs ≡ [] → All P xs
  all_none P xs none = subst (All P) (sym none) (All-nil P)

  -- one more element
  pub all_more : (P : X → Type 0) (xs ys : List X) (x : X) → ys ≡ xs ++ x ∷ [] → All P xs → P x → All P ys
  all_more P xs ys x is all here = subst (All P) (sym is) (All-append P xs (x ∷ []) all (single P x here))

  pub slice_get-snoc : (xs : List X) (x : X) (i : ℕ) (y : X) → slice_get (xs ++ x ∷ []) i ≡ Some y
      → ((i < length xs) × (slice_get xs i ≡ Some y)) ⊎ ((i ≡ length xs) × (x ≡ y))
  slice_get-snoc [] x zero y e = inr (refl, cc)
  slice_get-snoc [] x (suc i) y e = absurd cc
  slice_get-snoc (z ∷ xs) x zero y e = inl (omega arith, e)
  slice_get-snoc (z ∷ xs) x (suc i) y e =
      elim (slice_get-snoc xs x i y e) [ inl p ↦ inl (omega arith, p.1) | inr p ↦ inr (ap suc p.0, p.1) ]

  pub get_below : (xs : List X) (i : ℕ) (x : X) → slice_get xs i ≡ Some x → i < length xs
  get_below [] i x at = absurd cc
  get_below (y ∷ xs) zero x at = omega arith
  get_below (y ∷ xs) (suc i) x at = omega (arith, get_below xs i x at)

  -- what holds of all elements holds of one
  pub all_at : (P : X → Type 0) (xs : List X) (i : ℕ) (x : X) → All P xs → slice_get xs i ≡ Some x → P x
  all_at P [] i x all at = absurd cc
  all_at P (y ∷ xs) zero x all at = let same : y ≡ x = cc in subst P same (all zero y (omega arith))
  all_at P (y ∷ xs) (suc i) x all at = all_at P xs i x (λ k d lt. all (suc k) d (omega (arith, lt))) at

  mapped : {Y : Type 0} (f : X → Y) (P : Y → Type 0) (xs : List X) → All (λ x. P (f x)) xs → All P (map f xs)
  mapped f P [] all k d lt = absurd (omega (arith, lt))
  mapped f P (x ∷ xs) all zero d lt = all zero x (omega arith)
  mapped f P (x ∷ xs) all (suc k) d lt = mapped f P xs (λ j e below. all (suc j) e (omega (arith, below))) k d (omega (arith, lt))

  pub all_mapped : {Y : Type 0} (f : X → Y) (P : Y → Type 0) (xs : List X) (ys : List Y) → ys ≡ map f xs → All (λ x. P (f x)) xs → All P ys
  all_mapped f P xs ys is all = subst (All P) (sym is) (mapped f P xs all)

  -- a list of lists that was mapped twice
  pub length_twice : {Y Z : Type 0} (f : X → Y) (h : Y → Z) (xs : List X) (ys : List Y) → ys ≡ map f xs → length (map h ys) ≡ length xs
  length_twice f h xs ys is = length_of h ys ∙ (ap length is ∙ length_of f xs)

  -- what was borrowed completely is returned
  pub refilled : (n : ℕ) (xs ws : List X) → n ≡ length xs → length ws ≡ length xs → take n (ws ++ drop (length ws) xs) ≡ ws
  refilled n xs ws is same = take-append-le n ws (drop (length ws) xs) (omega (arith, is, same)) ∙ take_all n ws (omega (arith, is, same))
