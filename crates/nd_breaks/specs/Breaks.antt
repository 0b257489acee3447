-- Breakpoints: the map of those that are set, and which of them hold of a cluster.
use Rattle.std.specs.Prelude.{◌≡◌, ◌≢◌, ℕ, ◌<◌, ◌≤◌, Some, None}
use Rattle.std.specs.Ordering.{nat_cmp}
use Rattle.std.specs.FinMap as fin
use Rattle.nd_time.specs.Limits.{max_breaks}
use Rattle.nd_protocol.specs.State.{ClusterState}
use Rattle.nd_breaks.specs.Conditions.{ConditionValue, Holds}

-- the breakpoints that are set, by their ids
abbrev pub BreakMap : Type 0
BreakMap = fin.FinMap nat_cmp ConditionValue

-- neither this id nor any greater id is set
abbrev pub NoneFrom : BreakMap → ℕ → Type 0
NoneFrom m first = (id : ℕ) → first ≤ id → fin.get m id ≡ None

-- ---- breakpoints that hold

-- a breakpoint with this id is set and holds
abbrev pub HitAt : BreakMap → ClusterState → ℕ → Type 0
HitAt m s id = (c : ConditionValue) × (fin.get m id ≡ Some c) × Holds s c

-- no breakpoint with a lesser id holds
abbrev pub NoHitBelow : BreakMap → ClusterState → ℕ → Type 0
NoHitBelow m s id = (k : ℕ) → k < id → HitAt m s k → ⊥

-- no breakpoint that is set holds
pub record NoHit (m : BreakMap) (s : ClusterState) : Type 0 where
  pub none : (id : ℕ) → HitAt m s id → ⊥

-- `id` is the least id whose breakpoint holds
pub record FirstHit (m : BreakMap) (s : ClusterState) (id : ℕ) : Type 0 where
  pub hit : HitAt m s id
  pub least : NoHitBelow m s id

-- ---- ids

-- `id` is the least free id
pub record IsLeastFree (m : BreakMap) (id : ℕ) : Type 0 where
  pub within : id < max_breaks
  pub free : fin.get m id ≡ None
  pub least : (k : ℕ) → k < id → fin.get m k ≢ None

-- all ids are in use
pub record IsFull (m : BreakMap) : Type 0 where
  pub taken : (k : ℕ) → k < max_breaks → fin.get m k ≢ None
