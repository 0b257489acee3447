-- Places in a list.
use Rattle.std.proofs.Common.{◌≡◌, ◌∙◌, inl, inr, ◌⊎◌, ℕ, zero, suc, ◌<◌, List, [], ◌∷◌, ◌++◌, length, refl, ap, Some}
use Rattle.std.specs.Prelude.{slice_get, Contains}
use Rattle.std.proofs.lemmas.Option.{slice_get_within, slice_get-get_or, get_or_from_slice_get}

module _ {X : Type 0} where
  pub last_here : (xs : List X) (x : X) → slice_get (xs ++ x ∷ []) (length xs) ≡ Some x
  last_here [] x = refl
  last_here (y ∷ xs) x = last_here xs x

  pub still_here : (xs : List X) (x y : X) (k : ℕ) → slice_get xs k ≡ Some y → slice_get (xs ++ x ∷ []) k ≡ Some y
  still_here [] x y k h = absurd (cc (h))
  still_here (z ∷ xs) x y zero h = h
  still_here (z ∷ xs) x y (suc k) h = still_here xs x y k h

  -- what stands in a longer list stood in the list, or is the last
  pub old_or_new : (xs : List X) (x y : X) (k : ℕ) → slice_get (xs ++ x ∷ []) k ≡ Some y → (slice_get xs k ≡ Some y) ⊎ ((k ≡ length xs) × (x ≡ y))
  old_or_new [] x y zero h = inr (refl, cc (h))
  old_or_new [] x y (suc k) h = absurd (cc (h))
  old_or_new (z ∷ xs) x y zero h = inl h
  old_or_new (z ∷ xs) x y (suc k) h = further (old_or_new xs x y k h)
    where
      further : (slice_get xs k ≡ Some y) ⊎ ((k ≡ length xs) × (x ≡ y)) → (slice_get xs k ≡ Some y) ⊎ ((suc k ≡ suc (length xs)) × (x ≡ y))
      further (inl h) = inl h
      further (inr h) = inr (ap suc h.0, h.1)

  pub within_list : (xs : List X) (k : ℕ) (y : X) → slice_get xs k ≡ Some y → k < length xs
  within_list xs k y h = slice_get_within xs k y h

  pub one_there : (xs : List X) (k : ℕ) (x y : X) → slice_get xs k ≡ Some x → slice_get xs k ≡ Some y → x ≡ y
  one_there xs k x y h j = cc (h, j)

  pub contains_at : (xs : List X) (k : ℕ) (x : X) → slice_get xs k ≡ Some x → Contains xs x
  contains_at xs k x h = (k, within_list xs k x h, get_or_from_slice_get xs k x x h)

  pub at_contained : (xs : List X) (x : X) → Contains xs x → (k : ℕ) × (slice_get xs k ≡ Some x)
  at_contained xs x h = (h.0, slice_get-get_or xs h.0 x h.1 ∙ ap Some h.2)

  -- a list is empty, or has a last element
  pub last_of : (xs : List X) → (xs ≡ []) ⊎ ((ys : List X) × (y : X) × (xs ≡ ys ++ y ∷ []))
  last_of [] = inl refl
  last_of (x ∷ xs) = inr (further (last_of xs))
    where
      further : (xs ≡ []) ⊎ ((ys : List X) × (y : X) × (xs ≡ ys ++ y ∷ [])) → (ys : List X) × (y : X) × (x ∷ xs ≡ ys ++ y ∷ [])
      further (inl h) = ([], x, ap (λ zs. x ∷ zs) h)
      further (inr h) = (x ∷ h.0, h.1, ap (λ zs. x ∷ zs) h.2)
