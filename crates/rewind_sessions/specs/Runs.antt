-- The replies to clients' commands, and which of them are written.
use Rattle.std.specs.Prelude.{◌≡◌, ◌==◌, ℕ, ◌+◌, ◌<◌, List, [], ◌∷◌, ◌++◌, length, take, map, filter, slice_get, codes, All, Bool, true, false, IsTrue, Option, Some, None, Vec}
use Rattle.std.specs.List.{list_any}
use Rattle.std.specs.declared.alloc.Global.{Global}
use Rattle.serde_json.specs.Data.{Data, number, string, object, unsigned, no_members, member}
use Rattle.nd_time.specs.Code.{Code}
use Rattle.nd_time.specs.Limits.{max_log}
use Rattle.nd_graph.specs.Graph.{Dataflow}
use Rattle.nd_timeline.specs.Timeline.{cluster_of}
use Rattle.nd_machine.specs.Moves.{MachineValue}
use Rattle.nd_commands.specs.declared.command.Command.{Command}
use Rattle.nd_session.specs.Clients.{IsHistory}
use Rattle.nd_session.specs.Faults.{code_of}
use Rattle.nd_session.specs.declared.close.Log.{Log}
use Rattle.nd_session.specs.declared.receipt.Receipt.{Receipt}
use Rattle.nd_session.specs.declared.fault.SessionFault.{SessionFault}
use Rattle.nd_session.specs.declared.fault.SessionFault.TheVariants.{LogFull, Memory}
use Rattle.rewind_replies.specs.Replies.{reply_data}
use Rattle.rewind_options.specs.declared.fault.DebugFault.{DebugFault}
use Rattle.rewind_options.specs.declared.fault.DebugFault.TheVariants as fault

-- the commands of each client, in the order of its lines
abbrev pub Commands : Type 0
Commands = List (List (Command Global))

abbrev pub lists_of : List (Vec (Command Global) Global) → Commands
lists_of vs = map (λ v. v.items) vs

-- {"client":c,"number":n,"reply":reply}
abbrev pub entry : ℕ → ℕ → Data → Data
entry client count reply = object (member (codes "client") (number (unsigned client))
    (member (codes "number") (number (unsigned count)) (member (codes "reply") reply no_members)))

-- an entry of the log, with the names of the graph
abbrev pub entry_data : Dataflow → Receipt Global → Data
entry_data g e = entry e.client e.number (reply_data g e.reply)

-- {"client":c,"code":n,"error":name}
abbrev pub client_fault : ℕ → Code → Data
client_fault client code = object (member (codes "client") (number (unsigned client))
    (member (codes "code") (number (unsigned code.number)) (member (codes "error") (string code.name) no_members)))

-- a client's error, or none
abbrev pub Ended : Type 0
Ended = Option (SessionFault Global)

-- a client of a run may end without an error, with a full log, or out of memory
abbrev pub MayEnd : Ended → Type 0
MayEnd None = Unit {0}
MayEnd (Some LogFull) = Unit {0}
MayEnd (Some Memory) = Unit {0}
MayEnd _ = ⊥

-- whether the client met a full log
abbrev pub is_full : Ended → Bool
is_full (Some LogFull) = true
is_full _ = false

-- the errors of the clients that had one, by the clients' numbers from k on
abbrev pub faults_data : ℕ → List Ended → List Data
faults_data k [] = []
faults_data k (None ∷ faults) = faults_data (k + 1) faults
faults_data k (Some e ∷ faults) = client_fault k (code_of e) ∷ faults_data (k + 1) faults

-- a client's commands, as a log has them
abbrev pub commands_of : ℕ → List (Receipt Global) → List (Command Global)
commands_of client log = map (λ e. e.command) (filter (λ e. e.client == client) log)

-- the executed commands are the first ones of a client, and all of them exactly if it ended without an error
abbrev pub IsServed : List (Command Global) → List (Command Global) → Ended → Type 0
IsServed commands made None = made ≡ commands
IsServed commands made (Some e) = (n : ℕ) × (n < length commands) × (made ≡ take n commands)

-- The log and the errors that are reported: a legal log that begins with the script's machine and has the first commands of each
-- client, in order; and no errors except Memory, and LogFull if the log is full.
pub record IsRun (opening : MachineValue Global) (commands : Commands) (log : List (Receipt Global)) (machine : MachineValue Global) (faults : List Ended) : Type 0 where
  pub begins : machine.timeline.base ≡ opening.timeline.base
  pub history : IsHistory log machine
  pub clients : length faults ≡ length commands
  pub ended : All MayEnd faults
  pub full : IsTrue (list_any is_full faults) → length log ≡ max_log
  pub known : (i : ℕ) (e : Receipt Global) → slice_get log i ≡ Some e → e.client < length commands
  pub served : (c : ℕ) (asked : List (Command Global)) (ended : Ended) → slice_get commands c ≡ Some asked → slice_get faults c ≡ Some ended
      → IsServed asked (commands_of c log) ended

-- the machine that a session left
abbrev pub machine_of : Log Global → MachineValue Global
machine_of l = record { timeline = l.timeline; breaks = l.breaks }

-- the lines of a log, followed by those of the clients' errors
abbrev pub lines_data : Dataflow → List (Receipt Global) → List Ended → List Data
lines_data g log faults = map (entry_data g) log ++ faults_data 0 faults

-- the lines after the opening replies, if the machine began as `opening`
pub record AreLines (opening : MachineValue Global) (commands : Commands) (lines : List Data) : Type 0 where
  pub log : List (Receipt Global)
  pub machine : MachineValue Global
  pub faults : List Ended
  pub told : IsRun opening commands log machine faults
  pub shown : lines ≡ lines_data (cluster_of machine.timeline).graph log faults

-- the errors of driving clients
abbrev pub IsOfDriving : DebugFault → Type 0
IsOfDriving fault.Memory = Unit {0}
IsOfDriving fault.Close = Unit {0}
IsOfDriving _ = ⊥
