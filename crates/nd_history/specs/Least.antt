-- *Least hit*: the least position of a kept list at which a condition holds.
use Rattle.std.specs.Prelude.{ℕ, ◌+◌, ◌<◌, ◌≤◌, take, Option, Some, None}
use Rattle.nd_protocol.specs.Steps.{after}
use Rattle.nd_breaks.specs.Conditions.{ConditionValue, Holds}
use Rattle.nd_timeline.specs.Timeline.{TimelineValue}

-- the condition holds of the cluster at position i: of the base with the first i kept steps applied
abbrev pub HoldsAt : {A : Type 0} → TimelineValue A → ConditionValue → ℕ → Type 0
HoldsAt m c i = Holds (after m.base (take i m.kept)) c

-- there is no hit at a position from `from`, included, to `end`, excluded
abbrev pub NoHit : (ℕ → Type 0) → ℕ → ℕ → Type 0
NoHit Hit from end = (i : ℕ) → from ≤ i → i < end → Hit i → ⊥

-- the least hit from `from` to `to`, both included, or none
abbrev pub IsLeast : (ℕ → Type 0) → ℕ → ℕ → Option ℕ → Type 0
IsLeast Hit from to None = NoHit Hit from (to + 1)
IsLeast Hit from to (Some i) = (from ≤ i) × (i ≤ to) × Hit i × NoHit Hit from i
