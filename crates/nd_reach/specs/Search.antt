-- A search breadth first, while it goes on: what holds of the ways that were found.
use Rattle.std.specs.Prelude.{◌≡◌, ◌≢◌, ◌⊎◌, ℕ, ◌<◌, ◌≤◌, List, [], ◌∷◌, ◌++◌, Some, slice_get}
use Rattle.nd_protocol.specs.State.{ClusterState}
use Rattle.nd_protocol.specs.Steps.{after}
use Rattle.nd_protocol.specs.declared.step.Step.{Step}
use Rattle.nd_cluster.specs.Moves.{AreMoves}
use Rattle.nd_reach.specs.Ways.{IsMove, IsWay, IsLess}
use Rattle.nd_cluster.specs.declared.moves.Allowed.{Allowed}

-- the first way is the second, or less
abbrev pub IsAtMost : {A : Type 0} → Allowed → ClusterState → List (Step A) → List (Step A) → Type 0
IsAtMost allowed s xs ys = (xs ≡ ys) ⊎ IsLess allowed s xs ys

-- one of the ways leads to the same state, and is not greater
pub record Covers {A : Type 0} (allowed : Allowed) (s : ClusterState) (ways : List (List (Step A))) (xs : List (Step A)) : Type 0 where
  pub place : ℕ
  pub way : List (Step A)
  pub here : slice_get ways place ≡ Some way
  pub same : after s way ≡ after s xs
  pub most : IsAtMost allowed s way xs

-- the ways that were found, of which those before the place `at` have been expanded by each of their moves
pub record IsSearched {A : Type 0} (allowed : Allowed) (s : ClusterState) (ways : List (List (Step A))) (at : ℕ) : Type 0 where
  pub start : slice_get ways 0 ≡ Some []
  pub each : (k : ℕ) (w : List (Step A)) → slice_get ways k ≡ Some w → IsWay allowed s w
  pub order : (i j : ℕ) (v w : List (Step A)) → i < j → slice_get ways i ≡ Some v → slice_get ways j ≡ Some w → IsLess allowed s v w
  pub apart : (i j : ℕ) (v w : List (Step A)) → i < j → slice_get ways i ≡ Some v → slice_get ways j ≡ Some w → after s v ≢ after s w
  pub expanded : (k : ℕ) (w : List (Step A)) (x : Step A) → k < at → slice_get ways k ≡ Some w → IsMove allowed (after s w) x → Covers allowed s ways (w ++ x ∷ [])
  pub ahead : (k i : ℕ) (w v : List (Step A)) (x : Step A) → at ≤ k → slice_get ways k ≡ Some w → slice_get ways i ≡ Some v → IsLess allowed s v (w ++ x ∷ [])

-- the same while the way at the place `at` is being expanded: its moves before the place `next` have been tried
pub record IsGoing {A : Type 0} (allowed : Allowed) (s : ClusterState) (ways : List (List (Step A))) (at : ℕ) (w : List (Step A)) (moves : List (Step A)) (next : ℕ) : Type 0 where
  pub start : slice_get ways 0 ≡ Some []
  pub each : (k : ℕ) (w : List (Step A)) → slice_get ways k ≡ Some w → IsWay allowed s w
  pub order : (i j : ℕ) (v w : List (Step A)) → i < j → slice_get ways i ≡ Some v → slice_get ways j ≡ Some w → IsLess allowed s v w
  pub apart : (i j : ℕ) (v w : List (Step A)) → i < j → slice_get ways i ≡ Some v → slice_get ways j ≡ Some w → after s v ≢ after s w
  pub expanded : (k : ℕ) (w : List (Step A)) (x : Step A) → k < at → slice_get ways k ≡ Some w → IsMove allowed (after s w) x → Covers allowed s ways (w ++ x ∷ [])
  pub ahead : (k i : ℕ) (w v : List (Step A)) (x : Step A) → at < k → slice_get ways k ≡ Some w → slice_get ways i ≡ Some v → IsLess allowed s v (w ++ x ∷ [])
  pub here : slice_get ways at ≡ Some w
  pub moves_of : AreMoves allowed (after s w) moves
  pub partly : (j : ℕ) (x : Step A) → j < next → slice_get moves j ≡ Some x → Covers allowed s ways (w ++ x ∷ [])
  pub ahead_here : (j i : ℕ) (v : List (Step A)) (x : Step A) → next ≤ j → slice_get moves j ≡ Some x
      → ((m : ℕ) → m < next → slice_get moves m ≢ Some x) → slice_get ways i ≡ Some v → IsLess allowed s v (w ++ x ∷ [])
