-- The run to rest: the steps that it executes, and why it stops.
use Rattle.std.specs.Prelude.{◌≡◌, ◌≤◌, ⊤, ℕ, suc, List, [], ◌∷◌, length, None, Some, codes}
use Rattle.nd_protocol.specs.State.{ClusterState}
use Rattle.nd_protocol.specs.Steps.{stepped, after}
use Rattle.nd_protocol.specs.declared.step.Step.{Step}
use Rattle.nd_cluster.specs.Order.{IsNext}
use Rattle.nd_rest.specs.Rest.{IsAtRest}
use Rattle.nd_at_rest.specs.declared.run.RestStop.{RestStop}
use Rattle.nd_at_rest.specs.declared.run.RestStop.TheVariants as stop

-- each step of the list is the first enabled candidate in the state to which the steps before it lead from s; the turn of the first
-- step is given, and each later step has the next turn
abbrev pub AreFirst : {A : Type 0} → ClusterState → ℕ → List (Step A) → Type 0
AreFirst s turn [] = ⊤
AreFirst s turn (x ∷ xs) = IsNext s turn None (Some x) × AreFirst (stepped s x) (suc turn) xs

-- no candidate is enabled
abbrev pub IsIdle : Type 0 → ClusterState → Type 0
IsIdle A s = IsNext {A = A} s 0 None None

-- why a run stops in the state s: at rest; idle, but not at rest; or with some candidate enabled
abbrev pub IsStopOf : Type 0 → ClusterState → RestStop → Type 0
IsStopOf A s stop.Rest = IsIdle A s × IsAtRest A s
IsStopOf A s stop.Stuck = IsIdle A s × (IsAtRest A s → ⊥)
IsStopOf A s stop.Limit = IsIdle A s → ⊥

-- the run to rest from s executes these steps, at most `limit`, and stops in the state to which they lead
pub record RunsToRest {A : Type 0} (s : ClusterState) (turn limit : ℕ) (xs : List (Step A)) (how : RestStop) : Type 0 where
  pub first : AreFirst s turn xs
  pub within : length xs ≤ limit
  pub whole : how ≡ stop.Limit → length xs ≡ limit
  pub stops : IsStopOf A (after s xs) how

-- the word by which a reply reports why the run stops
abbrev pub word_of : RestStop → List ℕ
word_of stop.Rest = codes "rest"
word_of stop.Stuck = codes "stuck"
word_of stop.Limit = codes "limit"
