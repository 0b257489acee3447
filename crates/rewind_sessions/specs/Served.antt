-- What each client did. Only private contracts use these definitions.
use Rattle.std.specs.Prelude.{◌≡◌, ℕ, List, [], length, map, slice_get, Some, IfSome}
use Rattle.std.specs.declared.alloc.Global.{Global}
use Rattle.nd_commands.specs.declared.command.Command.{Command}
use Rattle.nd_session.specs.Faults.{CommandMayFail}
use Rattle.nd_session.specs.declared.receipt.Receipt.{Receipt}
use Rattle.rewind_sessions.specs.Runs.{IsServed, MayEnd}
use Rattle.rewind_sessions.specs.declared.drive.Done.{Done}
use Rattle.rewind_sessions.specs.declared.drive.Task.{Task}

-- the commands of these receipts, in order
abbrev pub asked : List (Receipt Global) → List (Command Global)
asked rs = map (λ r. r.command) rs

-- a client that has entered, with its commands
pub record IsFresh (number : ℕ) (commands : List (Command Global)) (t : Task) : Type 0 where
  pub number_is : t.client.number ≡ number
  pub receipts : t.client.receipts ≡ []
  pub commands_are : t.commands.items ≡ commands

-- the client has kept its number, its first commands were executed, and an error is one of its next command
pub record IsDone (t : Task) (d : Done) : Type 0 where
  pub number : d.client.number ≡ t.client.number
  pub served : t.client.receipts ≡ [] → IsServed t.commands.items (asked d.client.receipts) d.fault
  pub fails : IfSome d.fault (CommandMayFail d.client)

-- one of these clients ended otherwise than a client of a run may
pub record EndsOtherwise (ds : List Done) : Type 0 where
  pub place : ℕ
  pub client : Done
  pub at : slice_get ds place ≡ Some client
  pub otherwise : MayEnd client.fault → ⊥

abbrev pub AreDone : List Task → List Done → Type 0
AreDone ts ds = (i : ℕ) (t : Task) (d : Done) → slice_get ts i ≡ Some t → slice_get ds i ≡ Some d → IsDone t d

-- the clients with these numbers, each with its commands
pub record AreFresh (commands : List (List (Command Global))) (ts : List Task) : Type 0 where
  pub count : length ts ≡ length commands
  pub each : (i : ℕ) (asked : List (Command Global)) (t : Task) → slice_get commands i ≡ Some asked → slice_get ts i ≡ Some t → IsFresh i asked t
