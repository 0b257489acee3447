-- The number and the name of each error of a session, and when it is returned.
use Rattle.std.specs.Prelude.{◌≡◌, ℕ, ◌<◌, ◌≤◌, ◌⊎◌, List, length, codes}
use Rattle.nd_time.specs.Code.{Code, coded}
use Rattle.nd_time.specs.Limits.{max_log, max_clients}
use Rattle.nd_machine.specs.Moves.{MachineValue}
use Rattle.nd_session.specs.Clients.{ClientValue, IsHistory, IsKnown, HasReportedEntry, IsStranger}
use Rattle.nd_session.specs.declared.receipt.Receipt.{Receipt}
use Rattle.nd_session.specs.declared.fault.SessionFault.{SessionFault}
use Rattle.nd_session.specs.declared.fault.SessionFault.TheVariants.{NotThisSession, LogFull, TooManyClients, Memory}

-- the number and the name with which a session refuses a call
abbrev pub code_of : {A : Type 0} → SessionFault A → Code
code_of (NotThisSession index found) = coded 26 (codes "NotThisSession")
code_of LogFull = coded 27 (codes "LogFull")
code_of TooManyClients = coded 28 (codes "TooManyClients")
code_of Memory = coded 29 (codes "Memory")

-- a `State` with this log refuses a command with this error
abbrev pub ApplyFails : {A : Type 0} → List (Receipt A) → SessionFault A → Type 0
ApplyFails log (NotThisSession index found) = ⊥
ApplyFails log LogFull = length log ≡ max_log
ApplyFails log TooManyClients = ⊥
ApplyFails log Memory = length log < max_log

-- ---- under the lock, with this log and `entered` clients

-- the test of the client p fails with this error
abbrev pub TestFails : {A : Type 0} → ℕ → List (Receipt A) → ClientValue A → SessionFault A → Type 0
TestFails entered log p (NotThisSession index found) = IsStranger entered log p index found
TestFails entered log p LogFull = ⊥
TestFails entered log p TooManyClients = ⊥
TestFails entered log p Memory = HasReportedEntry entered log p

-- a command of the client p fails with this error; memory can run out for the entry that is reported to an unknown client, or for
-- a known client's own entry
abbrev pub CommandFails : {A : Type 0} → ℕ → List (Receipt A) → ClientValue A → SessionFault A → Type 0
CommandFails entered log p (NotThisSession index found) = IsStranger entered log p index found
CommandFails entered log p LogFull = IsKnown entered log p × (length log ≡ max_log)
CommandFails entered log p TooManyClients = ⊥
CommandFails entered log p Memory = HasReportedEntry entered log p ⊎ (IsKnown entered log p × (length log < max_log))

-- a copy for the client p fails with this error; memory can run out for the entry that is reported to an unknown client, or for a
-- known client's copy
abbrev pub CopyFails : {A : Type 0} → ℕ → List (Receipt A) → ClientValue A → SessionFault A → Type 0
CopyFails entered log p (NotThisSession index found) = IsStranger entered log p index found
CopyFails entered log p LogFull = ⊥
CopyFails entered log p TooManyClients = ⊥
CopyFails entered log p Memory = HasReportedEntry entered log p ⊎ IsKnown entered log p

-- entering fails with this error
abbrev pub EnterFails : {A : Type 0} → ℕ → SessionFault A → Type 0
EnterFails entered (NotThisSession index found) = ⊥
EnterFails entered LogFull = ⊥
EnterFails entered TooManyClients = max_clients ≤ entered
EnterFails entered Memory = entered < max_clients

-- ---- outside the lock: the error is possible for some history and some number of clients

-- a command of the client p fails with this error, for some history and number of clients
pub record CommandMayFail {A : Type 0} (p : ClientValue A) (fault : SessionFault A) : Type 0 where
  pub log : List (Receipt A)
  pub machine : MachineValue A
  pub entered : ℕ
  pub history : IsHistory log machine
  pub fails : CommandFails entered log p fault

-- a copy for the client p fails with this error, for some history and number of clients
pub record CopyMayFail {A : Type 0} (p : ClientValue A) (fault : SessionFault A) : Type 0 where
  pub log : List (Receipt A)
  pub machine : MachineValue A
  pub entered : ℕ
  pub history : IsHistory log machine
  pub fails : CopyFails entered log p fault

-- entering fails with this error, for some number of clients
pub record EnterMayFail {A : Type 0} (fault : SessionFault A) : Type 0 where
  pub entered : ℕ
  pub fails : EnterFails entered fault
