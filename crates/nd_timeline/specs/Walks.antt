-- Walks over the kept steps of a timeline.
use Rattle.std.specs.Prelude.{ℕ, ◌≡◌, ◌+◌, ◌≤◌, Result, length, take}
use Rattle.std.specs.Int.{abs_diff}
use Rattle.nd_protocol.specs.State.{ClusterState}
use Rattle.nd_protocol.specs.Steps.{after}
use Rattle.nd_steps.specs.declared.record.Record.{Record}
use Rattle.nd_cluster.specs.Records.{Leads}
use Rattle.nd_timeline.specs.Timeline.{TimelineValue, cluster_of, moved_to}
use Rattle.nd_timeline.specs.Moves.{moved_reply, JumpMoves}
use Rattle.nd_timeline.specs.Reached.{steps_of}
use Rattle.nd_replies.specs.declared.fault.Fault.{Fault}
use Rattle.nd_timeline.specs.declared.walk.Kept.{Kept}
use Rattle.nd_timeline.specs.declared.walk.Walk.{Walk}

-- the timeline with these kept steps and the cursor at position n
abbrev pub timeline_at : {A : Type 0} → Kept A → ℕ → TimelineValue A
timeline_at k n = record { base = k.base; kept = steps_of k.steps.items; cursor = n }

-- the walk is at a position of the timeline, and has the cluster at that position
pub record IsOn {A : Type 0} (m : TimelineValue A) (w : Walk A) : Type 0 where
  pub within : w.at ≤ length m.kept
  pub cluster : w.cluster ≡ cluster_of (moved_to m w.at)

-- neither the base nor the cursor is nearer to position n than where the walk begins
pub record BeginsNear {A : Type 0} (m : TimelineValue A) (n : ℕ) (w : Walk A) : Type 0 where
  pub start : abs_diff w.at n ≤ n
  pub cursor : abs_diff w.at n ≤ abs_diff m.cursor n

-- a walk goes from one position of a timeline to another as a jump moves the cursor
abbrev pub WalksTo : {A : Type 0} → TimelineValue A → ℕ → ℕ → Result (Unit {0}) Fault → ℕ → Type 0
WalksTo m from n result to = JumpMoves (moved_to m from) n (moved_reply result (moved_to m to)) (moved_to m to)

-- the cluster at a position
abbrev pub cluster_at : {A : Type 0} → Kept A → ℕ → ClusterState
cluster_at k i = after k.base (take i (steps_of k.steps.items))

-- a record leads from position i to the next
abbrev pub LeadsFrom : {A : Type 0} → Kept A → ℕ → Record A → Type 0
LeadsFrom k i r = Leads r (cluster_at k i) (cluster_at k (i + 1))
