-- Breakpoints in slots. Only the Model of `Breaks` uses these definitions.
use Rattle.std.specs.Prelude.{ℕ, ◌≤◌, suc, Option, Some, None, List, [], ◌∷◌, length, Vec, vec_capacity}
use Rattle.std.specs.FinMap as fin
use Rattle.nd_time.specs.Limits.{max_breaks}
use Rattle.nd_breaks.specs.Conditions.{ConditionValue}
use Rattle.nd_breaks.specs.Breaks.{BreakMap}

-- the map of the breakpoints in slots; the first slot has this id
abbrev pub from_slots : ℕ → List (Option ConditionValue) → BreakMap
from_slots id [] = fin.empty
from_slots id (None ∷ slots) = from_slots (suc id) slots
from_slots id (Some c ∷ slots) = fin.insert (from_slots (suc id) slots) id c

-- there is capacity for `max_breaks` breakpoints, and there are no more slots than that
pub record HasRoom {A : Type 0} (slots : Vec (Option ConditionValue) A) : Type 0 where
  pub few : length slots.items ≤ max_breaks
  pub room : max_breaks ≤ vec_capacity slots
