-- The log of a session: which logs are legal.
use Rattle.std.specs.Prelude.{◌≡◌, ℕ, ◌<◌, ◌≤◌, ◌==◌, List, [], ◌∷◌, length, take, count_by, slice_get, Some}
use Rattle.nd_time.specs.Limits.{max_processors}
use Rattle.nd_graph.specs.Graph.{Dataflow}
use Rattle.nd_paths.specs.Order.{IsAccepted}
use Rattle.nd_protocol.specs.State.{ClusterState}
use Rattle.nd_protocol.specs.Start.{start}
use Rattle.nd_timeline.specs.Timeline.{opened}
use Rattle.nd_machine.specs.Moves.{MachineValue, Moves, without_breaks}
use Rattle.nd_commands.specs.declared.command.Command.{Command}
use Rattle.nd_replies.specs.declared.reply.Reply.{Reply}
use Rattle.nd_session.specs.declared.receipt.Receipt.{Receipt}

-- ---- where a log begins

-- the cluster is in the initial state, for a number of processors and a graph with which a cluster can start
pub record IsStart (s : ClusterState) : Type 0 where
  pub graph : Dataflow
  pub count : ℕ
  pub is : s ≡ start graph count
  pub accepted : IsAccepted graph
  pub some : 0 < count
  pub few : count ≤ max_processors

-- the machine with which a machine's log began: no step is kept, and no breakpoint is set
abbrev pub opening_of : {A : Type 0} → MachineValue A → MachineValue A
opening_of {A} m = without_breaks (opened A m.timeline.base)

-- ---- entries

-- the number of a client's entries
abbrev pub count_of : {A : Type 0} → ℕ → List (Receipt A) → ℕ
count_of client log = count_by (λ e. e.client == client) log

-- the entry that is added to a log for a client's command with this reply
abbrev pub entry_of : {A : Type 0} → List (Receipt A) → ℕ → Command A → Reply → Receipt A
entry_of log client command reply = record { index = length log; client = client; number = count_of client log; command = command; reply = reply }

-- an entry at this position of a log has the position as its index, and its number is how many entries of its client come before
-- it
pub record IsPlaced {A : Type 0} (log : List (Receipt A)) (i : ℕ) (e : Receipt A) : Type 0 where
  pub index : e.index ≡ i
  pub number : e.number ≡ count_of e.client (take i log)

-- this holds of each entry
abbrev pub ArePlaced : {A : Type 0} → List (Receipt A) → Type 0
ArePlaced {A} log = (i : ℕ) (e : Receipt A) → slice_get log i ≡ Some e → IsPlaced log i e

-- the entries lead from one machine to another, each by a move for its command with its reply
unfoldable pub Leads : {A : Type 0} → MachineValue A → List (Receipt A) → MachineValue A → Type 0
Leads m [] new = new ≡ m
Leads {A} m (e ∷ es) new = record {
  mid : MachineValue A;
  moves : Moves m e.command e.reply mid;
  rest : Leads mid es new;
}

-- the log may be one of commands that were given to a machine that began as `opening`, and led to this machine
pub record IsLegal {A : Type 0} (opening : MachineValue A) (log : List (Receipt A)) (machine : MachineValue A) : Type 0 where
  pub placed : ArePlaced log
  pub leads : Leads opening log machine
