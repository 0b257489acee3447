-- The debugger's timeline: its base, the steps that it keeps, and the cursor.
use Rattle.std.specs.Prelude.{ℕ, ◌+◌, ◌≤◌, List, [], ◌∷◌, ◌++◌, length, take}
use Rattle.nd_time.specs.Limits.{max_kept}
use Rattle.nd_protocol.specs.State.{ClusterState}
use Rattle.nd_protocol.specs.Steps.{after}
use Rattle.nd_protocol.specs.Enabled.{AreEnabled}
use Rattle.nd_protocol.specs.declared.step.Step.{Step}

pub record TimelineValue (A : Type 0) : Type 0 where
  pub base : ClusterState
  pub kept : List (Step A)
  pub cursor : ℕ

-- the cluster at the cursor: the base with the kept steps up to the cursor applied
abbrev pub cluster_of : {A : Type 0} → TimelineValue A → ClusterState
cluster_of m = after m.base (take m.cursor m.kept)

-- a timeline without kept steps
abbrev pub opened : (A : Type 0) → ClusterState → TimelineValue A
opened A s = record { base = s; kept = []; cursor = 0 }

-- a step is kept in place of all steps after the cursor, and the cursor is after it
abbrev pub extended : {A : Type 0} → TimelineValue A → Step A → TimelineValue A
extended m x = record m { kept = take m.cursor m.kept ++ x ∷ []; cursor = m.cursor + 1 }

-- the same timeline with the cursor at another position
abbrev pub moved_to : {A : Type 0} → TimelineValue A → ℕ → TimelineValue A
moved_to m n = record m { cursor = n }

-- what holds of every timeline: each kept step is enabled in the state to which the steps before it lead
pub record IsTimeline {A : Type 0} (m : TimelineValue A) : Type 0 where
  pub within : m.cursor ≤ length m.kept
  pub few : length m.kept ≤ max_kept
  pub enabled : AreEnabled m.base m.kept
