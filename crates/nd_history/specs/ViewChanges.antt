-- The changes of a processor's view over the kept steps of a timeline, and why none are listed.
use Rattle.std.specs.Prelude.{ℕ, ◌<◌, ◌≤◌, ℤ, List, length, take}
use Rattle.nd_paths.specs.declared.point.Pointstamp.{Pointstamp}
use Rattle.nd_delta.specs.Delta.{at}
use Rattle.nd_protocol.specs.State.{view}
use Rattle.nd_protocol.specs.Steps.{after}
use Rattle.nd_timeline.specs.Timeline.{TimelineValue, cluster_of}
use Rattle.nd_history.specs.Changes.{changes_between}
use Rattle.nd_timeline.specs.declared.changed.Changed.{Changed}
use Rattle.nd_history.specs.declared.fault.ChangesFault.{ChangesFault}
use Rattle.nd_history.specs.declared.fault.ChangesFault.TheVariants.{NoProcessor, BadRange, NoSuchPoint, Memory}

-- the entry of q's view at a pointstamp at position i, 0 if there is none
abbrev pub entry_after : {A : Type 0} → TimelineValue A → ℕ → Pointstamp → ℕ → ℤ
entry_after m q x i = at (view (after m.base (take i m.kept)) q) x

-- the changes of q's view at a pointstamp: the positions i with lo < i and i at most hi at which the entry
-- differs from the entry at position i - 1, in order, each with the entry there
abbrev pub changes_of : {A : Type 0} → TimelineValue A → ℕ → Pointstamp → ℕ → ℕ → List Changed
changes_of m q x lo hi = changes_between (entry_after m q x) lo hi

-- the timeline has this processor, and this range of kept steps
pub record CanList {A : Type 0} (m : TimelineValue A) (q lo hi : ℕ) : Type 0 where
  pub processor : q < length (cluster_of m).processors
  pub range : lo ≤ hi
  pub within : hi ≤ length m.kept

-- why no changes are listed
abbrev pub CannotList : {A : Type 0} → TimelineValue A → ℕ → ℕ → ℕ → ChangesFault → Type 0
CannotList m q lo hi NoProcessor = length (cluster_of m).processors ≤ q
CannotList m q lo hi BadRange = (q < length (cluster_of m).processors) × (hi < lo)
CannotList m q lo hi NoSuchPoint = (q < length (cluster_of m).processors) × (lo ≤ hi) × (length m.kept < hi)
CannotList m q lo hi Memory = CanList m q lo hi
