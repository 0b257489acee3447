-- *History*: where what is observed of the clusters of a timeline changes, and what is listed of that.
use Rattle.std.specs.Prelude.{◌≡◌, ◌≢◌, ℕ, ◌+◌, ◌<◌, ◌≤◌, ◌⊎◌, ℤ, pos, List, [], ◌∷◌, ◌++◌, length, take, MatchBool}
use Rattle.nd_time.specs.Limits.{max_told}
use Rattle.nd_protocol.specs.State.{ClusterState}
use Rattle.nd_protocol.specs.Steps.{after}
use Rattle.nd_timeline.specs.Timeline.{TimelineValue}
use Rattle.nd_timeline.specs.declared.changed.Changed.{Changed}
use Rattle.nd_history.specs.declared.change_list.ChangeList.{ChangeList}

-- ---- what is observed

-- the number is observed at position i: of the base with the first i kept steps applied
abbrev pub shown_at : {A : Type 0} → TimelineValue A → (ClusterState → ℤ → Type 0) → ℕ → ℤ → Type 0
shown_at m Shows i n = Shows (after m.base (take i m.kept)) n

-- of whether something holds 1 is observed if it does, and otherwise 0
abbrev pub ShowsIf : Type 0 → ℤ → Type 0
ShowsIf P n = ((n ≡ pos 1) × P) ⊎ ((n ≡ pos 0) × (P → ⊥))

-- ---- where it changes

-- the number is observed at the position after i, and another at i
pub record ChangesTo (Shows : ℕ → ℤ → Type 0) (i : ℕ) (n : ℤ) : Type 0 where
  pub before : ℤ
  pub was : Shows i before
  pub is : Shows (i + 1) n
  pub differs : n ≢ before

-- the changes from position lo to another: each position above lo at which another number is observed than at
-- the one before it, in order, with the number
pub data AreChanges (Shows : ℕ → ℤ → Type 0) (lo : ℕ) : ℕ → List Changed → Type 0 where
  none_yet : AreChanges Shows lo lo []
  no_change : (i : ℕ) (cs : List Changed) (n : ℤ) → AreChanges Shows lo i cs → Shows i n → Shows (i + 1) n → AreChanges Shows lo (i + 1) cs
  one_change : (i : ℕ) (cs : List Changed) (n : ℤ) → AreChanges Shows lo i cs → ChangesTo Shows i n
      → AreChanges Shows lo (i + 1) (cs ++ record { position = i + 1; entry = n } ∷ [])

-- ---- what is listed

-- there are more changes than are listed: these are the first 1,000, and there is another
pub record AreFirst (Shows : ℕ → ℤ → Type 0) (lo hi : ℕ) (cs : List Changed) : Type 0 where
  pub count : length cs ≡ max_told
  pub end : ℕ
  pub within : end < hi
  pub first : AreChanges Shows lo end cs
  pub next : ℤ
  pub more : ChangesTo Shows end next

-- all changes are listed, at most 1,000
pub record AreAll (Shows : ℕ → ℤ → Type 0) (lo hi : ℕ) (cs : List Changed) : Type 0 where
  pub few : length cs ≤ max_told
  pub all : AreChanges Shows lo hi cs

-- the first changes from lo to hi, and whether there are more
abbrev pub IsHistory : {A : Type 0} → (ℕ → ℤ → Type 0) → ℕ → ℕ → ChangeList A → Type 0
IsHistory Shows lo hi told = MatchBool told.more (AreFirst Shows lo hi told.changes) (AreAll Shows lo hi told.changes)
