-- What results from reading the lines of a script of several clients, one after another.
use Rattle.std.specs.Prelude.{◌≡◌, ℕ, ◌+◌, List, [], ◌∷◌, ◌++◌, length, replicate, slice_set, slice_index_or, Result, Ok, Err}
use Rattle.serde_json.specs.Data.{Data}
use Rattle.nd_timeline.specs.Timeline.{cluster_of}
use Rattle.nd_time.specs.Limits.{max_line}
use Rattle.rewind_lines.specs.Lines.{Reading, blank, reading_of}
use Rattle.rewind_forms.specs.Versions.{longest_graph}
use Rattle.rewind_forms.specs.declared.version.Version.{Version}
use Rattle.rewind_answers.specs.Answers.{Answers, Logged, Phase, unopened, unstarted, running, refused}
use Rattle.rewind_sessions.specs.Orders.{order_in, order_fault}
use Rattle.rewind_sessions.specs.Runs.{Commands}
use Rattle.rewind_sessions.specs.declared.order.Order.{Order}
use Rattle.rewind_sessions.specs.declared.order.OrderFault.{OrderFault}

-- only blank lines so far; a version line, with its reply, and no graph yet; a refused graph's line, or a faulty line after the
-- graph's, with its reply; or a script: the version, the opening replies (to the version line, if there is one, and to the
-- graph's), the machine that begins there, and each client's commands
pub data Intake : Type 0 where
  nothing : Intake
  opened : Version → Data → Intake
  refused_graph : Data → Intake
  faulty_line : Data → Intake
  script : Version → List Data → Logged → Commands → Intake

-- how many bytes the next line may have: the graph's line may be longer than others
abbrev pub limit_after : Intake → ℕ
limit_after (opened version reply) = longest_graph version
limit_after _ = max_line

-- the commands with one more command at the end of its client's
abbrev pub with_command : Order → Commands → Commands
with_command o commands = slice_set commands o.client (slice_index_or commands o.client [] ++ o.command ∷ [])

-- no client has a command yet
abbrev pub no_commands : ℕ → Commands
no_commands clients = replicate clients []

-- the result of the lines up to the graph's, from the phase after them and all replies to them; the reply to a refused graph is
-- the last
abbrev pub IsBegun : ℕ → Phase → List Data → Intake → Type 0
IsBegun clients (unopened processors) [] new = new ≡ nothing
IsBegun clients (unstarted version processors) (reply ∷ []) new = new ≡ opened version reply
IsBegun clients (running version machine) replies new = new ≡ script version replies machine (no_commands clients)
IsBegun clients refused (reply ∷ []) new = new ≡ refused_graph reply
IsBegun clients refused (opening ∷ reply ∷ []) new = new ≡ refused_graph reply
IsBegun clients _ _ new = ⊥

-- a line up to the graph's is read, after lines with these replies
pub record Begins (clients : ℕ) (old : Phase) (opening : List Data) (n : ℕ) (reading : Reading) (new : Intake) : Type 0 where
  pub replies : List Data
  pub phase : Phase
  pub answers : Answers old n reading replies phase
  pub begun : IsBegun clients phase (opening ++ replies) new

-- the result of a line after the graph's
abbrev pub ordered : Version → List Data → Logged → Commands → ℕ → Result Order OrderFault → Intake
ordered version opening machine commands n (Ok order) = script version opening machine (with_command order commands)
ordered version opening machine commands n (Err fault) = faulty_line (order_fault fault n)

-- A line is read; after the first refused line, lines are not looked at.
abbrev pub ReadsLine : ℕ → ℕ → Intake → ℕ → Reading → Intake → Type 0
ReadsLine processors clients nothing n reading new = Begins clients (unopened processors) [] n reading new
ReadsLine processors clients (opened version reply) n reading new = Begins clients (unstarted version processors) (reply ∷ []) n reading new
ReadsLine processors clients (refused_graph reply) n reading new = new ≡ refused_graph reply
ReadsLine processors clients (faulty_line reply) n reading new = new ≡ faulty_line reply
ReadsLine processors clients (script version opening machine commands) n blank new = new ≡ script version opening machine commands
ReadsLine processors clients (script version opening machine commands) n reading new =
    new ≡ ordered version opening machine commands n (order_in version (length commands) (cluster_of machine.machine.timeline).graph reading)

-- these lines are read, and the first of them has this number
unfoldable pub Reads : ℕ → ℕ → Intake → ℕ → List (List ℕ) → Intake → Type 0
Reads processors clients old n [] new = new ≡ old
Reads processors clients old n (line ∷ lines) new =
    (mid : Intake) × ReadsLine processors clients old n (reading_of (limit_after old) line) mid × Reads processors clients mid (n + 1) lines new
