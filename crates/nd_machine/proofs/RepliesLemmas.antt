-- A machine, a command and its reply determine the machine after the command.
use Rattle.std.proofs.Common.{◌≡◌, ℕ, zero, suc, List, Option, Some, sym, ap, subst, ◌∙◌, arith}
use Rattle.nd_protocol.specs.declared.step.Step.{Step}
use Rattle.nd_protocol.specs.declared.refusal.Refusal.TheVariants.{NoProcessor}
use Rattle.nd_cluster.specs.Order.{ChoiceIsFirst}
use Rattle.nd_breaks.specs.Breaks.{BreakMap}
use Rattle.nd_breaks.specs.Conditions.{ConditionValue}
use Rattle.nd_timeline.specs.Timeline.{TimelineValue, cluster_of, extended}
use Rattle.nd_machine.specs.Moves.{MachineValue, Goes, HasRun, StopsAt, RunMoves, SetMoves, ClearMoves}
use Rattle.nd_timeline.specs.Moves.{ForwardMoves, BackMoves, RedoMoves, JumpMoves}
use Rattle.nd_machine.specs.Laws.{RepliesDetermineMachines}
use Rattle.nd_commands.specs.declared.command.Command.TheVariants as command
use Rattle.nd_replies.specs.declared.fault.Fault.TheVariants as fault
use Rattle.nd_replies.specs.declared.reply.Stop.{Stop}
use Rattle.nd_replies.specs.declared.reply.Stop.TheVariants as stop
use Rattle.nd_replies.specs.declared.reply.Reply.{Reply}
use Rattle.nd_replies.specs.declared.reply.Reply.TheVariants as reply
use Rattle.nd_machine.proofs.RunLemmas.{one_chosen}

module _ {A : Type 0} where
  -- ---- the timeline, without runs

  one_forward : (m new other : TimelineValue A) (x : Step A) (r : Reply) → ForwardMoves m x r new → ForwardMoves m x r other → new ≡ other
  one_forward m new other x (reply.Refused fault.TimelineFull) h k = h.1 ∙ sym k.1
  one_forward m new other x (reply.Refused (fault.Step r)) h k = h.2 ∙ sym k.2
  one_forward m new other x (reply.Refused (fault.Memory at)) h k = h.3 ∙ sym k.3
  one_forward m new other x (reply.Moved at kept) h k = h.4 ∙ sym k.4
  one_forward m new other x _ h k = absurd h

  one_back : (m new other : TimelineValue A) (r : Reply) → BackMoves m r new → BackMoves m r other → new ≡ other
  one_back m new other (reply.Refused fault.AtStart) h k = h.1 ∙ sym k.1
  one_back m new other (reply.Refused (fault.Memory at)) h k = h.2 ∙ sym k.2
  one_back m new other (reply.Moved at kept) h k = h.3 ∙ sym k.3
  one_back m new other _ h k = absurd h

  one_redo : (m new other : TimelineValue A) (r : Reply) → RedoMoves m r new → RedoMoves m r other → new ≡ other
  one_redo m new other (reply.Refused fault.AtEnd) h k = h.1 ∙ sym k.1
  one_redo m new other (reply.Refused (fault.Memory at)) h k = h.2 ∙ sym k.2
  one_redo m new other (reply.Moved at kept) h k = h.3 ∙ sym k.3
  one_redo m new other _ h k = absurd h

  one_jump : (m new other : TimelineValue A) (n : ℕ) (r : Reply) → JumpMoves m n r new → JumpMoves m n r other → new ≡ other
  one_jump m new other n (reply.Refused fault.NoSuchPoint) h k = h.1 ∙ sym k.1
  one_jump m new other n (reply.Refused (fault.Memory at)) h k = h.2 ∙ sym k.2
  one_jump m new other n (reply.Moved at kept) h k = h.3 ∙ sym k.3
  one_jump m new other n _ h k = absurd h

-- ---- a run

module _ {A : Type 0} (law : ChoiceIsFirst A) where
  pub one_step : (only : Option (List ℕ)) (seed : Option ℕ) (m l new other : TimelineValue A) (x y : Step A) → m ≡ l → Goes only seed m x new → Goes only seed l y other → new ≡ other
  one_step only seed m l new other x y same g h =
      let k : Goes only seed m y other = subst (λ (m : TimelineValue A). Goes only seed m y other) (sym same) h in
      let chosen : x ≡ y = cc (one_chosen law (cluster_of m) m.cursor only seed (Some x) (Some y) g.chosen k.chosen) in
      g.made ∙ ap (extended m) chosen ∙ sym k.made

  pub one_run : (only : Option (List ℕ)) (seed : Option ℕ) (breaks : BreakMap) (n : ℕ) (m new other : TimelineValue A) → HasRun only seed breaks n m new → HasRun only seed breaks n m other → new ≡ other
  unfolding HasRun
  one_run only seed breaks zero m new other h k = h ∙ sym k
  one_run only seed breaks (suc n) m new other h k =
      one_step only seed h.mid k.mid new other h.step k.step (one_run only seed breaks n m h.mid k.mid h.earlier k.earlier) h.last k.last

  -- two runs of the same number of steps lead to the same timeline
  one_run_of : (only : Option (List ℕ)) (seed : Option ℕ) (breaks : BreakMap) (n c : ℕ) (m new other : TimelineValue A) → n ≡ c → HasRun only seed breaks n m new → HasRun only seed breaks c m other → new ≡ other
  one_run_of only seed breaks n c m new other same h k = one_run only seed breaks n m new other h (subst (λ n. HasRun only seed breaks n m other) (sym same) k)

  pub one_stop : (only : Option (List ℕ)) (seed : Option ℕ) (breaks : BreakMap) (limit : ℕ) (m : TimelineValue A) (ran : ℕ) (why : Stop) (new other : TimelineValue A)
      → StopsAt only seed breaks limit m ran why new → StopsAt only seed breaks limit m ran why other → new ≡ other
  one_stop only seed breaks limit m ran stop.Limit new other h k = one_run only seed breaks ran m new other h.1 k.1
  one_stop only seed breaks limit m ran stop.Idle new other h k = one_run only seed breaks ran m new other h.1 k.1
  one_stop only seed breaks limit m ran (stop.Break id) new other h k =
      let count : h.before ≡ k.before = omega (arith, h.count, k.count) in
      one_step only seed h.mid k.mid new other h.step k.step (one_run_of only seed breaks h.before k.before m h.mid k.mid count h.earlier k.earlier) h.last k.last

  one_ran : (m new other : TimelineValue A) (limit : ℕ) (only : Option (List ℕ)) (seed : Option ℕ) (breaks : BreakMap) (r : Reply) → RunMoves m limit only seed breaks r new → RunMoves m limit only seed breaks r other → new ≡ other
  one_ran m new other limit only seed breaks (reply.Refused fault.TimelineFull) h k = h.1 ∙ sym k.1
  one_ran m new other limit only seed breaks (reply.Refused (fault.Step NoProcessor)) h k = h.2 ∙ sym k.2
  one_ran m new other limit only seed breaks (reply.Refused (fault.Memory at)) h k =
      let count : h.2.0 ≡ k.2.0 = omega (arith, h.2.3, k.2.3) in
      one_run_of only seed breaks h.2.0 k.2.0 m new other count h.2.2 k.2.2
  one_ran m new other limit only seed breaks (reply.Ran at kept ran why) h k = one_stop only seed breaks limit m ran why new other h.2 k.2
  one_ran m new other limit only seed breaks _ h k = absurd h

-- ---- the breakpoints

one_set : (m new other : BreakMap) (c : ConditionValue) (r : Reply) → SetMoves m c r new → SetMoves m c r other → new ≡ other
one_set m new other c (reply.Refused fault.TooManyBreaks) h k = h.1 ∙ sym k.1
one_set m new other c (reply.Set id) h k = h.1 ∙ sym k.1
one_set m new other c _ h k = absurd h

one_clear : (m new other : BreakMap) (id : ℕ) (r : Reply) → ClearMoves m id r new → ClearMoves m id r other → new ≡ other
one_clear m new other id (reply.Refused fault.NoBreak) h k = h.1 ∙ sym k.1
one_clear m new other id reply.Cleared h k = h.1 ∙ sym k.1
one_clear m new other id _ h k = absurd h

-- ---- the machine

module _ {A : Type 0} where
  one_machine : (new other : MachineValue A) → new.timeline ≡ other.timeline → new.breaks ≡ other.breaks → new ≡ other
  one_machine new other timeline breaks = λ i. record { timeline = timeline i; breaks = breaks i }

pub replies_determine : (A : Type 0) → ChoiceIsFirst A → RepliesDetermineMachines A
replies_determine A law m new other (command.Forward x) r h k =
    one_machine new other (one_forward m.timeline new.timeline other.timeline x r h.0 k.0) (h.1 ∙ sym k.1)
replies_determine A law m new other command.Back r h k = one_machine new other (one_back m.timeline new.timeline other.timeline r h.0 k.0) (h.1 ∙ sym k.1)
replies_determine A law m new other command.Redo r h k = one_machine new other (one_redo m.timeline new.timeline other.timeline r h.0 k.0) (h.1 ∙ sym k.1)
replies_determine A law m new other (command.Jump n) r h k =
    one_machine new other (one_jump m.timeline new.timeline other.timeline n r h.0 k.0) (h.1 ∙ sym k.1)
replies_determine A law m new other (command.Run limit only seed) r h k =
    one_machine new other (one_ran law m.timeline new.timeline other.timeline limit only seed m.breaks r h.0 k.0) (h.1 ∙ sym k.1)
replies_determine A law m new other (command.SetBreak c) r h k =
    one_machine new other (h.1 ∙ sym k.1) (one_set m.breaks new.breaks other.breaks c r h.0 k.0)
replies_determine A law m new other (command.ClearBreak id) r h k =
    one_machine new other (h.1 ∙ sym k.1) (one_clear m.breaks new.breaks other.breaks id r h.0 k.0)
