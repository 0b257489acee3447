-- How a `State` stores its log. Only its invariant uses these definitions.
use Rattle.std.specs.Prelude.{◌≡◌, ℕ, ◌≤◌, List, length, unwrap_or}
use Rattle.std.specs.Ordering.{nat_cmp}
use Rattle.std.specs.FinMap.{find}
use Rattle.nd_time.specs.Limits.{max_log}
use Rattle.nd_protocol.specs.Fitting.{IsState}
use Rattle.nd_protocol.specs.Invariant.{KeepsProtocol}
use Rattle.nd_machine.specs.Moves.{MachineValue}
use Rattle.nd_session.specs.Log.{IsStart, IsLegal, count_of, opening_of}
use Rattle.nd_session.specs.declared.receipt.Receipt.{Receipt}

-- the map has the number of each client's entries in the log
abbrev pub AreCounts : {A : Type 0} → List (ℕ × ℕ) → List (Receipt A) → Type 0
AreCounts counts log = (client : ℕ) → unwrap_or (find nat_cmp client counts) 0 ≡ count_of client log

-- what holds of every `State`: its machine began at an initial state, and its legal log leads from there to the machine
pub record IsKept {A : Type 0} (machine : MachineValue A) (log : List (Receipt A)) (counts : List (ℕ × ℕ)) : Type 0 where
  pub start : IsStart machine.timeline.base
  pub state : IsState machine.timeline.base
  pub protocol : KeepsProtocol machine.timeline.base
  pub legal : IsLegal (opening_of machine) log machine
  pub few : length log ≤ max_log
  pub counted : AreCounts counts log
