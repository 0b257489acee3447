-- What every move of the debugger machine preserves, and what its replies determine, as statements. A is the
-- allocator of the steps' values.
use Rattle.std.specs.Prelude.{◌≡◌, ℕ, ◌+◌, List, Option}
use Rattle.nd_protocol.specs.State.{ClusterState}
use Rattle.nd_protocol.specs.declared.step.Step.{Step}
use Rattle.nd_cluster.specs.Choice.{Chooses}
use Rattle.nd_timeline.specs.Timeline.{IsTimeline, moved_to}
use Rattle.nd_machine.specs.Moves.{MachineValue, Moves}
use Rattle.nd_commands.specs.declared.command.Command.{Command}
use Rattle.nd_commands.specs.declared.command.Command.TheVariants.{Run}
use Rattle.nd_replies.specs.declared.reply.Reply.{Reply}
use Rattle.nd_replies.specs.declared.reply.Reply.TheVariants.{Ran}
use Rattle.nd_replies.specs.declared.reply.Stop.{Stop}
use Rattle.nd_replies.specs.declared.reply.Stop.TheVariants.{Limit}

-- no move changes the base
abbrev pub MovesKeepBase : Type 0 → Type 0
MovesKeepBase A = (m new : MachineValue A) (command : Command A) (reply : Reply) → Moves m command reply new → new.timeline.base ≡ m.timeline.base

-- moves keep each kept step enabled in the state to which the steps before it lead
abbrev pub MovesKeepTimelines : Type 0 → Type 0
MovesKeepTimelines A =
    (m new : MachineValue A) (command : Command A) (reply : Reply) → Moves m command reply new → IsTimeline m.timeline → IsTimeline new.timeline

-- among the same candidates of the same state, there is only one choice
abbrev pub ChoicesAreUnique : Type 0 → Type 0
ChoicesAreUnique A =
    (s : ClusterState) (xs : List (Step A)) (choice other : Option (Step A)) → Chooses s xs choice → Chooses s xs other → choice ≡ other

-- a machine, a command and its reply determine the machine after the command
abbrev pub RepliesDetermineMachines : Type 0 → Type 0
RepliesDetermineMachines A =
    (m new other : MachineValue A) (command : Command A) (reply : Reply) → Moves m command reply new → Moves m command reply other → new ≡ other

-- ---- runs

-- a run that reaches its limit of n steps, and then a run with the limit k, lead where one run with the limit n + k leads; it has
-- the reply of the second run, with the steps of both
abbrev pub RunsJoin : Type 0 → Type 0
RunsJoin A =
    (m mid new : MachineValue A) (n k at kept later_at later_kept more : ℕ) (only : Option (List ℕ)) (seed : Option ℕ) (why : Stop)
    → Moves m (Run n only seed) (Ran at kept n Limit) mid → Moves mid (Run k only seed) (Ran later_at later_kept more why) new
    → Moves m (Run (n + k) only seed) (Ran later_at later_kept (n + more) why) new

-- the same machine with the cursor at another position, as after `back` and `jump`
abbrev pub gone_to : {A : Type 0} → MachineValue A → ℕ → MachineValue A
gone_to m n = record m { timeline = moved_to m.timeline n }

-- if the cursor goes back to where a run began, the same run gets the same reply and leads to the same machine
abbrev pub RunsRepeat : Type 0 → Type 0
RunsRepeat A =
    (m new other : MachineValue A) (limit at kept ran again_at again_kept again : ℕ) (only : Option (List ℕ)) (seed : Option ℕ) (why then_why : Stop)
    → IsTimeline m.timeline → Moves m (Run limit only seed) (Ran at kept ran why) new
    → Moves (gone_to new m.timeline.cursor) (Run limit only seed) (Ran again_at again_kept again then_why) other
    → (Ran again_at again_kept again then_why ≡ Ran at kept ran why) × (other ≡ new)
