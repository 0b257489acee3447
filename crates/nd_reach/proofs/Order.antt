-- The order of ways.
use Rattle.std.proofs.Common.{◌≡◌, ◌∙◌, inl, inr, ◌⊎◌, ℕ, zero, suc, ◌+◌, ◌<◌, ◌≤◌, List, [], ◌∷◌, ◌++◌, length, refl, sym, ap, subst, arith, length-append}
use Rattle.nd_protocol.specs.State.{ClusterState}
use Rattle.nd_protocol.specs.Steps.{stepped, after}
use Rattle.nd_protocol.specs.declared.step.Step.{Step}
use Rattle.nd_cluster.specs.Moves.{tries, AreTheEnabled}
use Rattle.nd_reach.specs.Ways.{IsMove, IsWay, StandsBefore, ComesFirst, IsSooner, IsLess}
use Rattle.nd_reach.specs.Search.{IsAtMost}
use Rattle.nd_cluster.specs.declared.moves.Allowed.{Allowed}

-- ---- places in a list

pub order_of : (i j : ℕ) → (i < j) ⊎ (j ≤ i)
order_of i zero = inr (omega arith)
order_of zero (suc j) = inl (omega arith)
order_of (suc i) (suc j) = more (order_of i j)
  where
    more : (i < j) ⊎ (j ≤ i) → (suc i < suc j) ⊎ (suc j ≤ suc i)
    more (inl h) = inl (omega (arith, h))
    more (inr h) = inr (omega (arith, h))

module _ {X : Type 0} where
  pub stands_trans : (xs : List X) (x y z : X) → StandsBefore xs x y → StandsBefore xs y z → StandsBefore xs x z
  stands_trans xs x y z h k = by_order (order_of h.place k.place)
    where
      by_order : (h.place < k.place) ⊎ (k.place ≤ h.place) → StandsBefore xs x z
      by_order (inl lt) = record { place = h.place; here = h.here; not_yet = λ i le. k.not_yet i (omega (arith, le, lt)); later = k.later }
      by_order (inr le) = absurd (h.not_yet k.place le k.here)

-- the state to which one step more leads
pub after_snoc : {A : Type 0} (s : ClusterState) (xs : List (Step A)) (x : Step A) → after s (xs ++ x ∷ []) ≡ stepped (after s xs) x
unfolding after
after_snoc s [] x = refl
after_snoc s (y ∷ ys) x = after_snoc (stepped s y) ys x

module _ {A : Type 0} (allowed : Allowed) where
  -- ---- moves

  pub one_enabled : (s : ClusterState) (all e f : List (Step A)) → AreTheEnabled s all e → AreTheEnabled s all f → e ≡ f
  one_enabled s [] e f h k = h ∙ sym k
  one_enabled s (x ∷ all) e f (inl h) (inl k) = h.1.2 ∙ (ap (λ ys. x ∷ ys) (one_enabled s all h.1.0 k.1.0 h.1.1 k.1.1) ∙ sym k.1.2)
  one_enabled s (x ∷ all) e f (inl h) (inr k) = absurd (k.0 h.0)
  one_enabled s (x ∷ all) e f (inr h) (inl k) = absurd (h.0 k.0)
  one_enabled s (x ∷ all) e f (inr h) (inr k) = one_enabled s all e f h.1 k.1

  pub comes_trans : (s : ClusterState) (x y z : Step A) → ComesFirst allowed s x y → ComesFirst allowed s y z → ComesFirst allowed s x z
  comes_trans s x y z h k =
      let same : k.0 ≡ h.0 = one_enabled s (tries allowed s) k.0 h.0 k.1 h.1 in
      (h.0, h.1, stands_trans h.0 x y z h.2 (subst (λ xs. StandsBefore xs y z) same k.2))

  -- ---- ways that are as long

  pub sooner_trans : (s : ClusterState) (xs ys zs : List (Step A)) → IsSooner allowed s xs ys → IsSooner allowed s ys zs → IsSooner allowed s xs zs
  sooner_trans s [] ys zs h k = absurd h
  sooner_trans s (x ∷ xs) [] zs h k = absurd h
  sooner_trans s (x ∷ xs) (y ∷ ys) [] h k = absurd k
  sooner_trans s (x ∷ xs) (y ∷ ys) (z ∷ zs) (inl h) (inl k) = inl (comes_trans s x y z h k)
  sooner_trans s (x ∷ xs) (y ∷ ys) (z ∷ zs) (inl h) (inr k) = inl (subst (λ w. ComesFirst allowed s x w) k.0 h)
  sooner_trans s (x ∷ xs) (y ∷ ys) (z ∷ zs) (inr h) (inl k) = inl (subst (λ w. ComesFirst allowed s w z) (sym h.0) k)
  sooner_trans s (x ∷ xs) (y ∷ ys) (z ∷ zs) (inr h) (inr k) =
      inr (h.0 ∙ k.0, sooner_trans (stepped s x) xs ys zs h.1 (subst (λ w. IsSooner allowed (stepped s w) ys zs) (sym h.0) k.1))

  pub sooner_snoc : (s : ClusterState) (xs ys : List (Step A)) (x y : Step A) → IsSooner allowed s xs ys
      → IsSooner allowed s (xs ++ x ∷ []) (ys ++ y ∷ [])
  sooner_snoc s [] ys x y h = absurd h
  sooner_snoc s (a ∷ xs) [] x y h = absurd h
  sooner_snoc s (a ∷ xs) (b ∷ ys) x y (inl h) = inl h
  sooner_snoc s (a ∷ xs) (b ∷ ys) x y (inr h) = inr (h.0, sooner_snoc (stepped s a) xs ys x y h.1)

  -- ---- one step more

  pub way_snoc : (s : ClusterState) (xs : List (Step A)) (x : Step A) → IsWay allowed s xs → IsMove allowed (after s xs) x → IsWay allowed s (xs ++ x ∷ [])
  unfolding after
  way_snoc s [] x w m = (m, tt)
  way_snoc s (y ∷ ys) x w m = (w.0, way_snoc (stepped s y) ys x w.1 m)

  pub way_front : (s : ClusterState) (xs : List (Step A)) (x : Step A) → IsWay allowed s (xs ++ x ∷ []) → IsWay allowed s xs
  way_front s [] x w = tt
  way_front s (y ∷ ys) x w = (w.0, way_front (stepped s y) ys x w.1)

  pub way_last : (s : ClusterState) (xs : List (Step A)) (x : Step A) → IsWay allowed s (xs ++ x ∷ []) → IsMove allowed (after s xs) x
  unfolding after
  way_last s [] x w = w.0
  way_last s (y ∷ ys) x w = way_last (stepped s y) ys x w.1

  pub sooner_last : (s : ClusterState) (xs : List (Step A)) (x y : Step A) → ComesFirst allowed (after s xs) x y
      → IsSooner allowed s (xs ++ x ∷ []) (xs ++ y ∷ [])
  unfolding after
  sooner_last s [] x y h = inl h
  sooner_last s (a ∷ xs) x y h = inr (refl, sooner_last (stepped s a) xs x y h)

  -- ---- less

  longer : (xs : List (Step A)) (x : Step A) → length (xs ++ x ∷ []) ≡ length xs + 1
  longer xs x = length-append xs (x ∷ [])

  pub less_trans : (s : ClusterState) (xs ys zs : List (Step A)) → IsLess allowed s xs ys → IsLess allowed s ys zs → IsLess allowed s xs zs
  less_trans s xs ys zs (inl h) (inl k) = inl (omega (arith, h, k))
  less_trans s xs ys zs (inl h) (inr k) = inl (omega (arith, h, k.0))
  less_trans s xs ys zs (inr h) (inl k) = inl (omega (arith, h.0, k))
  less_trans s xs ys zs (inr h) (inr k) = inr (h.0 ∙ k.0, sooner_trans s xs ys zs h.1 k.1)

  pub less_snoc : (s : ClusterState) (xs ys : List (Step A)) (x y : Step A) → IsLess allowed s xs ys → IsLess allowed s (xs ++ x ∷ []) (ys ++ y ∷ [])
  less_snoc s xs ys x y (inl h) = inl (omega (arith, h, longer xs x, longer ys y))
  less_snoc s xs ys x y (inr h) = inr (omega (arith, h.0, longer xs x, longer ys y), sooner_snoc s xs ys x y h.1)

  pub less_last : (s : ClusterState) (xs : List (Step A)) (x y : Step A) → ComesFirst allowed (after s xs) x y
      → IsLess allowed s (xs ++ x ∷ []) (xs ++ y ∷ [])
  less_last s xs x y h = inr (omega (arith, longer xs x, longer xs y), sooner_last s xs x y h)

  pub less_later : (s : ClusterState) (xs ys : List (Step A)) (y : Step A) → IsLess allowed s xs ys → IsLess allowed s xs (ys ++ y ∷ [])
  less_later s xs ys y (inl h) = inl (omega (arith, h, longer ys y))
  less_later s xs ys y (inr h) = inl (omega (arith, h.0, longer ys y))

  pub less_more : (s : ClusterState) (xs : List (Step A)) (x : Step A) → IsLess allowed s xs (xs ++ x ∷ [])
  less_more s xs x = inl (omega (arith, longer xs x))

  pub most_trans : (s : ClusterState) (xs ys zs : List (Step A)) → IsAtMost allowed s xs ys → IsAtMost allowed s ys zs → IsAtMost allowed s xs zs
  most_trans s xs ys zs (inl h) (inl k) = inl (h ∙ k)
  most_trans s xs ys zs (inl h) (inr k) = inr (subst (λ ws. IsLess allowed s ws zs) (sym h) k)
  most_trans s xs ys zs (inr h) (inl k) = inr (subst (λ ws. IsLess allowed s xs ws) k h)
  most_trans s xs ys zs (inr h) (inr k) = inr (less_trans s xs ys zs h k)

  pub less_most : (s : ClusterState) (xs ys zs : List (Step A)) → IsLess allowed s xs ys → IsAtMost allowed s ys zs → IsLess allowed s xs zs
  less_most s xs ys zs h (inl k) = subst (λ ws. IsLess allowed s xs ws) k h
  less_most s xs ys zs h (inr k) = less_trans s xs ys zs h k

  pub most_snoc : (s : ClusterState) (xs ys : List (Step A)) (x : Step A) → IsAtMost allowed s xs ys → IsAtMost allowed s (xs ++ x ∷ []) (ys ++ x ∷ [])
  most_snoc s xs ys x (inl h) = inl (ap (λ ws. ws ++ x ∷ []) h)
  most_snoc s xs ys x (inr h) = inr (less_snoc s xs ys x x h)

  pub most_length : (s : ClusterState) (xs ys : List (Step A)) → IsAtMost allowed s xs ys → length xs ≤ length ys
  most_length s xs ys (inl h) = let same : length xs ≡ length ys = ap length h in omega (arith, same)
  most_length s xs ys (inr (inl h)) = omega (arith, h)
  most_length s xs ys (inr (inr h)) = omega (arith, h.0)
