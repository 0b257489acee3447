-- *Turns*: the positions at which a condition begins or ceases to hold, and what is listed of them.
use Rattle.std.specs.Prelude.{◌≡◌, ◌↔◌, ℕ, ◌-◌, ◌<◌, ◌≤◌, ◌⊎◌, List, length, slice_get, Contains, AllPairs, Option, Some, cond, IsTrue, MatchBool}
use Rattle.nd_time.specs.Limits.{max_told}
use Rattle.nd_timeline.specs.Timeline.{TimelineValue}
use Rattle.nd_history.specs.declared.turn_list.TurnList.{TurnList}
use Rattle.nd_history.specs.declared.fault.TurnsFault.{TurnsFault}
use Rattle.nd_history.specs.declared.fault.TurnsFault.TheVariants.{BadRange, NoSuchPoint, Memory}

-- there is a hit at a position and none at the position before it, or the other way round
abbrev pub Differs : (ℕ → Type 0) → ℕ → Type 0
Differs Hit k = (Hit k × (Hit (k - 1) → ⊥)) ⊎ ((Hit k → ⊥) × Hit (k - 1))

-- a turn in a range: a position above the first and up to the last that differs from the one before it
pub record IsTurn (Hit : ℕ → Type 0) (lo hi k : ℕ) : Type 0 where
  pub above : lo < k
  pub within : k ≤ hi
  pub differs : Differs Hit k

-- the turns of a range: all of them, in order
pub record AreTurns (Hit : ℕ → Type 0) (lo hi : ℕ) (ks : List ℕ) : Type 0 where
  pub ascending : AllPairs (λ j k. j < k) ks
  pub exact : (k : ℕ) → Contains ks k ↔ IsTurn Hit lo hi k

-- there are more turns than are listed: these are the first 1,000, and there is another
pub record AreFirstTurns (Hit : ℕ → Type 0) (lo hi : ℕ) (ks : List ℕ) : Type 0 where
  pub count : length ks ≡ max_told
  pub next : ℕ
  pub more : IsTurn Hit lo hi next
  pub first : AreTurns Hit lo (next - 1) ks

-- all turns are listed, at most 1,000
pub record AreAllTurns (Hit : ℕ → Type 0) (lo hi : ℕ) (ks : List ℕ) : Type 0 where
  pub few : length ks ≤ max_told
  pub all : AreTurns Hit lo hi ks

-- what is listed of the turns of a range, and whether there is a hit at its first position
pub record AreListed {A : Type 0} (Hit : ℕ → Type 0) (lo hi : ℕ) (turns : TurnList A) : Type 0 where
  pub at_lo : IsTrue turns.at_lo ↔ Hit lo
  pub listed : MatchBool turns.more (AreFirstTurns Hit lo hi turns.positions) (AreAllTurns Hit lo hi turns.positions)

-- the least hit of the range by its turns: its first position if there is a hit, otherwise the first turn
abbrev pub first_hit_of : {A : Type 0} → ℕ → TurnList A → Option ℕ
first_hit_of lo turns = cond turns.at_lo (Some lo) (slice_get turns.positions 0)

-- the timeline has this range of kept steps
pub record MayTurn {A : Type 0} (m : TimelineValue A) (lo hi : ℕ) : Type 0 where
  pub range : lo ≤ hi
  pub within : hi ≤ length m.kept

-- why no turns are listed
abbrev pub CannotTurn : {A : Type 0} → TimelineValue A → ℕ → ℕ → TurnsFault → Type 0
CannotTurn m lo hi BadRange = hi < lo
CannotTurn m lo hi NoSuchPoint = (lo ≤ hi) × (length m.kept < hi)
CannotTurn m lo hi Memory = MayTurn m lo hi
