-- The debugger machine: which replies a command may get, and the machine after it.
-- Each relation has one case for each kind of reply that is possible; any other reply is impossible for that command.
use Rattle.std.specs.Prelude.{◌≡◌, ◌≢◌, ℕ, zero, suc, ◌+◌, ◌<◌, ◌≤◌, List, Any, length, Option, None, Some, Result, Ok, Err}
use Rattle.std.specs.FinMap as fin
use Rattle.nd_time.specs.Limits.{max_kept}
use Rattle.nd_protocol.specs.declared.refusal.Refusal.TheVariants.{NoProcessor}
use Rattle.nd_protocol.specs.declared.step.Step.{Step}
use Rattle.nd_cluster.specs.Candidates.{candidates_among}
use Rattle.nd_cluster.specs.Choice.{AreRefused}
use Rattle.nd_breaks.specs.Breaks.{BreakMap, NoHit, FirstHit, IsLeastFree, IsFull}
use Rattle.nd_breaks.specs.Conditions.{ConditionValue}
use Rattle.nd_replies.specs.declared.fault.Fault.{Fault}
use Rattle.nd_replies.specs.declared.fault.Fault.TheVariants.{Step as of_step, Memory, TimelineFull, TooManyBreaks, NoBreak}
use Rattle.nd_replies.specs.declared.reply.Stop.{Stop}
use Rattle.nd_replies.specs.declared.reply.Stop.TheVariants as stop
use Rattle.nd_replies.specs.declared.reply.Ran.{Ran as RanSteps}
use Rattle.nd_replies.specs.declared.reply.Reply.{Reply}
use Rattle.nd_replies.specs.declared.reply.Reply.TheVariants.{Ran, Set, Cleared, Refused}
use Rattle.nd_commands.specs.declared.command.Command.{Command}
use Rattle.nd_commands.specs.declared.command.Command.TheVariants as command
use Rattle.nd_timeline.specs.Timeline.{TimelineValue, cluster_of, extended}
use Rattle.nd_timeline.specs.Moves.{ForwardMoves, BackMoves, RedoMoves, JumpMoves}
use Rattle.nd_machine.specs.Seeds.{IsChosen}

-- a timeline, and the breakpoints by id
pub record MachineValue (A : Type 0) : Type 0 where
  pub timeline : TimelineValue A
  pub breaks : BreakMap

-- a machine without breakpoints
abbrev pub without_breaks : {A : Type 0} → TimelineValue A → MachineValue A
without_breaks m = record { timeline = m; breaks = fin.empty }

-- ---- a run

-- the run lists a processor that the cluster does not have
abbrev pub ListsMissing : {A : Type 0} → TimelineValue A → Option (List ℕ) → Type 0
ListsMissing m None = ⊥
ListsMissing m (Some listed) = Any (λ p. length (cluster_of m).processors ≤ p) listed

-- a run may continue with this step, the first enabled candidate
pub record Goes {A : Type 0} (only : Option (List ℕ)) (seed : Option ℕ) (m : TimelineValue A) (x : Step A) (new : TimelineValue A) : Type 0 where
  pub chosen : IsChosen (cluster_of m) m.cursor only seed (Some x)
  pub made : new ≡ extended m x

-- the run has executed this many steps, and no breakpoint held after any of them
unfoldable pub HasRun : {A : Type 0} → Option (List ℕ) → Option ℕ → BreakMap → ℕ → TimelineValue A → TimelineValue A → Type 0
HasRun only seed breaks zero m new = new ≡ m
HasRun only seed breaks (suc n) m new = record {
  mid : TimelineValue _;
  step : Step _;
  earlier : HasRun only seed breaks n m mid;
  last : Goes only seed mid step new;
  no_hit : NoHit breaks (cluster_of new);
}

-- why a run stops after `ran` steps
abbrev pub StopsAt : {A : Type 0} → Option (List ℕ) → Option ℕ → BreakMap → ℕ → TimelineValue A → ℕ → Stop → TimelineValue A → Type 0
StopsAt only seed breaks limit m ran stop.Limit new = (ran ≡ limit) × HasRun only seed breaks ran m new
StopsAt {A} only seed breaks limit m ran stop.Idle new =
    (ran < limit) × HasRun only seed breaks ran m new × AreRefused {A = A} (cluster_of new) (candidates_among (cluster_of new) only)
StopsAt {A} only seed breaks limit m ran (stop.Break id) new = record {
  mid : TimelineValue A;
  step : Step A;
  before : ℕ;
  within : before < limit;
  count : ran ≡ before + 1;
  earlier : HasRun only seed breaks before m mid;
  last : Goes only seed mid step new;
  hit : FirstHit breaks (cluster_of new) id;
}

-- the reply has the cursor and the number of kept steps
abbrev pub ReportsCursor : {A : Type 0} → TimelineValue A → ℕ → ℕ → Type 0
ReportsCursor new at kept = (at ≡ new.cursor) × (kept ≡ length new.kept)

-- which replies a run may get, and the timeline after each; if memory runs out, the steps executed so far stay
abbrev pub RunMoves : {A : Type 0} → TimelineValue A → ℕ → Option (List ℕ) → Option ℕ → BreakMap → Reply → TimelineValue A → Type 0
RunMoves m limit only seed breaks (Refused TimelineFull) new = (max_kept < m.cursor + limit) × (new ≡ m)
RunMoves m limit only seed breaks (Refused (of_step NoProcessor)) new = (m.cursor + limit ≤ max_kept) × ListsMissing m only × (new ≡ m)
RunMoves m limit only seed breaks (Refused (Memory at)) new =
    (m.cursor + limit ≤ max_kept) × (ListsMissing m only → ⊥) × ((ran : ℕ) × (ran < limit) × HasRun only seed breaks ran m new × (at ≡ m.cursor + ran))
RunMoves m limit only seed breaks (Ran at kept ran stop) new =
    (m.cursor + limit ≤ max_kept) × (ListsMissing m only → ⊥) × StopsAt only seed breaks limit m ran stop new × ReportsCursor new at kept
RunMoves m limit only seed breaks _ new = ⊥

-- ---- breakpoints

abbrev pub SetMoves : BreakMap → ConditionValue → Reply → BreakMap → Type 0
SetMoves m c (Refused TooManyBreaks) new = IsFull m × (new ≡ m)
SetMoves m c (Set id) new = IsLeastFree m id × (new ≡ fin.insert m id c)
SetMoves m c _ new = ⊥

abbrev pub ClearMoves : BreakMap → ℕ → Reply → BreakMap → Type 0
ClearMoves m id (Refused NoBreak) new = (fin.get m id ≡ None) × (new ≡ m)
ClearMoves m id Cleared new = (fin.get m id ≢ None) × (new ≡ fin.remove m id)
ClearMoves m id _ new = ⊥

-- ---- the machine

-- which replies a command may get, and the machine after it
abbrev pub Moves : {A : Type 0} → MachineValue A → Command A → Reply → MachineValue A → Type 0
Moves m (command.Forward x) reply new = ForwardMoves m.timeline x reply new.timeline × (new.breaks ≡ m.breaks)
Moves m command.Back reply new = BackMoves m.timeline reply new.timeline × (new.breaks ≡ m.breaks)
Moves m command.Redo reply new = RedoMoves m.timeline reply new.timeline × (new.breaks ≡ m.breaks)
Moves m (command.Jump n) reply new = JumpMoves m.timeline n reply new.timeline × (new.breaks ≡ m.breaks)
Moves m (command.Run limit only seed) reply new = RunMoves m.timeline limit only seed m.breaks reply new.timeline × (new.breaks ≡ m.breaks)
Moves m (command.SetBreak c) reply new = SetMoves m.breaks c reply new.breaks × (new.timeline ≡ m.timeline)
Moves m (command.ClearBreak id) reply new = ClearMoves m.breaks id reply new.breaks × (new.timeline ≡ m.timeline)

-- the reply to a run
abbrev pub ran_reply : {A : Type 0} → Result RanSteps Fault → TimelineValue A → Reply
ran_reply (Ok r) new = Ran new.cursor (length new.kept) r.ran r.stop
ran_reply (Err e) new = Refused e
