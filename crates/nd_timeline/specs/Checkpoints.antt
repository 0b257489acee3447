-- Checkpoints of a timeline, and where a walk begins. Only the timeline's invariant
-- and private contracts use these definitions.
use Rattle.std.specs.Prelude.{◌≡◌, ℕ, ◌+◌, ◌*◌, ◌<◌, ◌≤◌, ◌-◌, List, All, AllPairs, Contains, length, take, slice_index_or}
use Rattle.std.specs.Int.{abs_diff}
use Rattle.nd_protocol.specs.State.{ClusterState}
use Rattle.nd_protocol.specs.Steps.{after}
use Rattle.nd_steps.specs.declared.record.Record.{Record}
use Rattle.nd_cluster.specs.Saved.{state_in, IsSaved}
use Rattle.nd_cluster.specs.Size.{size_of}
use Rattle.nd_timeline.specs.Reached.{steps_of, IsReached}
use Rattle.nd_timeline.specs.declared.checkpoint.Checkpoint.{Checkpoint}
use Rattle.nd_timeline.specs.declared.checkpoint.Start.{Start}
use Rattle.nd_timeline.specs.declared.checkpoint.Start.TheVariants as start
use Rattle.nd_timeline.specs.declared.walk.Kept.{Kept}

-- the checkpoint saves the cluster at its position, which is within the steps
pub record IsCheckpoint {A : Type 0} (base : ClusterState) (steps : List (Record A)) (c : Checkpoint A) : Type 0 where
  pub within : c.at ≤ length steps
  pub saved : IsSaved (after base (take c.at (steps_of steps))) c.saved

-- the fewest steps between two checkpoints
abbrev pub spacing : ℕ
spacing = 1024

-- the fewest steps between two checkpoints for each entry of the later one
abbrev pub steps_per_entry : ℕ
steps_per_entry = 4

-- the checkpoint is far enough from a position, in steps, for the memory that it takes
pub record IsDue {A : Type 0} (base : ClusterState) (from : ℕ) (c : Checkpoint A) : Type 0 where
  pub steps : from + spacing ≤ c.at
  pub entries : from + steps_per_entry * size_of (state_in base.graph c.saved) ≤ c.at

-- the position of the last checkpoint, 0 if there is none
pub record IsLast {A : Type 0} (cs : List (Checkpoint A)) (n : ℕ) : Type 0 where
  pub some : (d : Checkpoint A) → 0 < length cs → n ≡ (slice_index_or cs (length cs - 1) d).at
  pub none : length cs ≡ 0 → n ≡ 0

-- each of these is a checkpoint, far enough from the base and from each earlier checkpoint
pub record AreCheckpoints {A : Type 0} (base : ClusterState) (steps : List (Record A)) (cs : List (Checkpoint A)) : Type 0 where
  pub each : All (IsCheckpoint base steps) cs
  pub from_base : All (IsDue base 0) cs
  pub spaced : AllPairs (λ c d. IsDue base c.at d) cs

-- the checkpoints of a timeline fit its base and its steps
abbrev pub AreKept : {A : Type 0} → Kept A → Type 0
AreKept k = AreCheckpoints k.base k.steps.items k.checkpoints.items

-- the invariant of a timeline: its cluster and its checkpoints fit its base and its steps
pub record IsKept {A : Type 0} (base cluster : ClusterState) (steps : List (Record A)) (cs : List (Checkpoint A)) (cursor : ℕ) : Type 0 where
  pub reached : IsReached base cluster steps cursor
  pub checkpoints : AreCheckpoints base steps cs

-- the distance of a checkpoint from a position
abbrev pub IsGap : {A : Type 0} → List (Checkpoint A) → ℕ → ℕ → ℕ → Type 0
IsGap {A} cs i n gap = (d : Checkpoint A) → gap ≡ abs_diff (slice_index_or cs i d).at n

-- no checkpoint is nearer to position n than the position `at`
abbrev pub IsNoFarther : {A : Type 0} → List (Checkpoint A) → ℕ → ℕ → Type 0
IsNoFarther cs at n = All (λ c. abs_diff at n ≤ abs_diff c.at n) cs

-- the position where a walk begins
abbrev pub position_of : {A : Type 0} → ℕ → Start A → ℕ
position_of cursor start.Base = 0
position_of cursor start.Cursor = cursor
position_of cursor (start.Checkpoint c) = c.now.at

-- of positions that are equally near to position n the cursor is chosen, then the base
abbrev pub WinsTies : {A : Type 0} → ℕ → ℕ → Start A → Type 0
WinsTies cursor n start.Base = n < abs_diff cursor n
WinsTies cursor n start.Cursor = Unit {0}
WinsTies cursor n (start.Checkpoint c) = (abs_diff c.now.at n < n) × (abs_diff c.now.at n < abs_diff cursor n)

-- neither the base nor the cursor nor a checkpoint is nearer to position n than the position at which the walk begins
pub record IsNearest {A : Type 0} (cs : List (Checkpoint A)) (at n : ℕ) (s : Start A) : Type 0 where
  pub base : abs_diff (position_of at s) n ≤ n
  pub cursor : abs_diff (position_of at s) n ≤ abs_diff at n
  pub checkpoints : IsNoFarther cs (position_of at s) n
  pub ties : WinsTies at n s

-- if a walk begins at a checkpoint, it is one of these
abbrev pub IsAmong : {A : Type 0} → List (Checkpoint A) → Start A → Type 0
IsAmong cs (start.Checkpoint c) = Contains cs c.now
IsAmong cs _ = Unit {0}
