-- Ways: lists of moves from a state, and their order.
use Rattle.std.specs.Prelude.{◌≡◌, ◌≢◌, ◌⊎◌, ℕ, ◌<◌, ◌≤◌, List, [], ◌∷◌, length, All, Any, AllPairs, Contains, Some, slice_get}
use Rattle.nd_protocol.specs.State.{ClusterState}
use Rattle.nd_protocol.specs.Steps.{stepped, after}
use Rattle.nd_protocol.specs.Enabled.{IsEnabled}
use Rattle.nd_protocol.specs.declared.step.Step.{Step}
use Rattle.nd_cluster.specs.Moves.{tries, AreMoves}
use Rattle.nd_cluster.specs.declared.moves.Allowed.{Allowed}

-- ---- ways

-- the step is a move of the state
pub record IsMove {A : Type 0} (allowed : Allowed) (s : ClusterState) (x : Step A) : Type 0 where
  pub tried : Contains (tries allowed s) x
  pub enabled : IsEnabled s x

-- each step of the list is a move of the state to which the steps before it lead from s
abbrev pub IsWay : {A : Type 0} → Allowed → ClusterState → List (Step A) → Type 0
IsWay allowed s [] = Unit {0}
IsWay allowed s (x ∷ xs) = IsMove allowed s x × IsWay allowed (stepped s x) xs

-- ---- the order of ways from a state

-- x stands in the list before y stands there for the first time
pub record StandsBefore {X : Type 0} (xs : List X) (x y : X) : Type 0 where
  pub place : ℕ
  pub here : slice_get xs place ≡ Some x
  pub not_yet : (i : ℕ) → i ≤ place → slice_get xs i ≢ Some y
  pub later : Contains xs y

-- x stands before y among the moves of the state
abbrev pub ComesFirst : {A : Type 0} → Allowed → ClusterState → Step A → Step A → Type 0
ComesFirst {A} allowed s x y = (moves : List (Step A)) × AreMoves allowed s moves × StandsBefore moves x y

-- at the first place at which the two lists differ, the step of the first comes before that of the second among the moves of the
-- state to which the steps before them lead from s
abbrev pub IsSooner : {A : Type 0} → Allowed → ClusterState → List (Step A) → List (Step A) → Type 0
IsSooner allowed s [] ys = ⊥
IsSooner allowed s (x ∷ xs) [] = ⊥
IsSooner allowed s (x ∷ xs) (y ∷ ys) = ComesFirst allowed s x y ⊎ ((x ≡ y) × IsSooner allowed (stepped s x) xs ys)

-- the first way is less than the second: it is shorter, or as long and sooner
abbrev pub IsLess : {A : Type 0} → Allowed → ClusterState → List (Step A) → List (Step A) → Type 0
IsLess allowed s xs ys = (length xs < length ys) ⊎ ((length xs ≡ length ys) × IsSooner allowed s xs ys)

-- ---- the states that are reached, each by its least way

-- one of these ways leads to the same state as xs, and is xs or less than it
abbrev pub IsCovered : {A : Type 0} → Allowed → ClusterState → List (List (Step A)) → List (Step A) → Type 0
IsCovered allowed s ways xs = Any (λ w. (after s w ≡ after s xs) × ((w ≡ xs) ⊎ IsLess allowed s w xs)) ways

-- The least ways to the first states that are reached from s: ways in order, to different states. Each other way leads to one of
-- these states and is not less than the way to it that is listed, or comes after all that are listed.
pub record AreFirst {A : Type 0} (allowed : Allowed) (s : ClusterState) (ways : List (List (Step A))) : Type 0 where
  pub each : All (IsWay allowed s) ways
  pub order : AllPairs (IsLess allowed s) ways
  pub apart : AllPairs (λ v w. after s v ≢ after s w) ways
  pub others : (xs : List (Step A)) → IsWay allowed s xs → IsCovered allowed s ways xs ⊎ All (λ w. IsLess allowed s w xs) ways

-- each way leads to a state to which one of these leads
abbrev pub AreAll : {A : Type 0} → Allowed → ClusterState → List (List (Step A)) → Type 0
AreAll {A} allowed s ways = (xs : List (Step A)) → IsWay allowed s xs → IsCovered allowed s ways xs
