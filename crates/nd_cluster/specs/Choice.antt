-- The choice of a run's next step: the first enabled candidate, beginning with the turn's processor.
use Rattle.std.specs.Prelude.{◌≡◌, ◌⊎◌, ◌-◌, ◌%◌, ℕ, List, [], ◌∷◌, ◌++◌, length, take, drop, Option, Some, None, option_map, IfSome, All}
use Rattle.std.specs.List.{range_with_len}
use Rattle.nd_protocol.specs.State.{ClusterState}
use Rattle.nd_protocol.specs.Enabled.{IsEnabled}
use Rattle.nd_protocol.specs.declared.step.Step.{Step}
use Rattle.nd_steps.specs.declared.record.Record.{Record}
use Rattle.nd_cluster.specs.Candidates.{candidates_among, candidates_on}
use Rattle.nd_cluster.specs.Records.{IsPlanned}

-- ---- the turn

-- n processors, beginning with the turn's: from this one to the last, then from processor 0 on
abbrev pub from_turn : ℕ → ℕ → List ℕ
from_turn n turn = range_with_len (turn % n) (n - turn % n) ++ range_with_len 0 (turn % n)

-- the candidates of the processors that a run goes through, beginning with the turn's
abbrev pub candidates_from : {A : Type 0} → ClusterState → ℕ → Option (List ℕ) → List (Step A)
candidates_from s turn only = candidates_on s only (from_turn (length s.processors) turn)

-- ---- the choice by a lot

-- a list from the place j to its end, and then its items before j
abbrev pub turned_to : {X : Type 0} → ℕ → List X → List X
turned_to j xs = drop j xs ++ take j xs

-- these steps, starting at number `lot` modulo their count and wrapping around
abbrev pub turned_by : {A : Type 0} → ℕ → List (Step A) → List (Step A)
turned_by lot xs = turned_to (lot % length xs) xs

-- the candidates of the processors that a run goes through, beginning with the place of a lot
abbrev pub candidates_by : {A : Type 0} → ClusterState → ℕ → Option (List ℕ) → List (Step A)
candidates_by s lot only = turned_by lot (candidates_among s only)

-- ---- the choice

-- the choice among these steps: the first if it is enabled, otherwise the choice among the others; none if there are no steps
abbrev pub Chooses : {A : Type 0} → ClusterState → List (Step A) → Option (Step A) → Type 0
Chooses s [] choice = choice ≡ None
Chooses s (x ∷ xs) choice = (IsEnabled s x × (choice ≡ Some x)) ⊎ ((IsEnabled s x → ⊥) × Chooses s xs choice)

-- none of these steps is enabled
abbrev pub AreRefused : {A : Type 0} → ClusterState → List (Step A) → Type 0
AreRefused s xs = All (λ x. IsEnabled s x → ⊥) xs

-- ---- the record of the choice

-- the record of a step, or none if it is refused
abbrev pub Tries : {A : Type 0} → ClusterState → Step A → Option (Record A) → Type 0
Tries s x None = IsEnabled s x → ⊥
Tries s x (Some r) = IsEnabled s x × (r.step ≡ x) × IsPlanned r s

-- the record of the choice among these steps
abbrev pub Finds : {A : Type 0} → ClusterState → List (Step A) → Option (Record A) → Type 0
Finds {A} s xs found = Chooses s xs (option_map (λ (r : Record A). r.step) found) × IfSome found (λ r. IsPlanned r s)
