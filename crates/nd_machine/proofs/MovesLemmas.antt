-- What every move of the debugger machine preserves.
use Rattle.std.proofs.Common.{◌≡◌, ◌<◌, ◌≤◌, ℕ, zero, suc, ◌+◌, List, [], ◌∷◌, ◌++◌, length, take, Option, inl, inr, sym, ap, subst, ◌∙◌, arith, length-append}
use Rattle.std.proofs.lemmas.List.{length-take-le}
use Rattle.nd_time.specs.Limits.{max_kept}
use Rattle.nd_protocol.specs.State.{ClusterState}
use Rattle.nd_protocol.specs.Steps.{after, stepped}
use Rattle.nd_protocol.specs.Enabled.{IsEnabled, AreEnabled}
use Rattle.nd_protocol.specs.declared.step.Step.{Step}
use Rattle.nd_protocol.specs.declared.refusal.Refusal.TheVariants.{NoProcessor}
use Rattle.nd_breaks.specs.Breaks.{BreakMap}
use Rattle.nd_timeline.specs.Timeline.{TimelineValue, IsTimeline, cluster_of, extended, moved_to}
use Rattle.nd_timeline.specs.Moves.{ForwardMoves, BackMoves, RedoMoves, IsOnTheWay, JumpMoves}
use Rattle.nd_machine.specs.Moves.{HasRun, StopsAt, RunMoves}
use Rattle.nd_machine.specs.Laws.{MovesKeepBase, MovesKeepTimelines}
use Rattle.nd_commands.specs.declared.command.Command.TheVariants as command
use Rattle.nd_replies.specs.declared.fault.Fault.TheVariants as fault
use Rattle.nd_replies.specs.declared.reply.Stop.{Stop}
use Rattle.nd_replies.specs.declared.reply.Stop.TheVariants as stop
use Rattle.nd_replies.specs.declared.reply.Reply.{Reply}
use Rattle.nd_replies.specs.declared.reply.Reply.TheVariants as reply
use Rattle.nd_machine.proofs.RunLemmas.{goes_enabled}

-- ---- steps that are enabled in the state to which those before them lead

module _ {A : Type 0} where
  enabled_take : (s : ClusterState) (n : ℕ) (xs : List (Step A)) → AreEnabled s xs → AreEnabled s (take n xs)
  enabled_take s zero xs h = tt
  enabled_take s (suc n) [] h = tt
  enabled_take s (suc n) (x ∷ xs) h = (h.0, enabled_take (stepped s x) n xs h.1)

  enabled_push : (s : ClusterState) (xs : List (Step A)) (x : Step A) → AreEnabled s xs → IsEnabled (after s xs) x → AreEnabled s (xs ++ x ∷ [])
  unfolding after
  enabled_push s [] x h last = (last, tt)
  enabled_push s (y ∷ xs) x h last = (h.0, enabled_push (stepped s y) xs x h.1 last)

  extended_is : (m new : TimelineValue A) (x : Step A) → new ≡ extended m x → m.cursor < max_kept → IsEnabled (cluster_of m) x → IsTimeline m → IsTimeline new
  extended_is m new x is room can was =
      let front : List (Step A) = take m.cursor m.kept in
      let count : length front ≡ m.cursor = length-take-le m.cursor m.kept was.within in
      let more : length (front ++ x ∷ []) ≡ m.cursor + 1 = omega (arith, length-append front (x ∷ []), count) in
      subst (λ (m : TimelineValue A). IsTimeline m) (sym is) (record {
        within = omega (arith, more);
        few = omega (arith, more);
        enabled = enabled_push m.base front x (enabled_take m.base m.cursor m.kept was.enabled) can;
      })

  moved_is : (m new : TimelineValue A) (n : ℕ) → new ≡ moved_to m n → n ≤ length m.kept → IsTimeline m → IsTimeline new
  moved_is m new n is within was = subst (λ (m : TimelineValue A). IsTimeline m) (sym is) (record { within = within; few = was.few; enabled = was.enabled })

  same_is : (m new : TimelineValue A) → new ≡ m → IsTimeline m → IsTimeline new
  same_is m new is was = subst (λ (m : TimelineValue A). IsTimeline m) (sym is) was

  same_base : (m new : TimelineValue A) → new ≡ m → new.base ≡ m.base
  same_base m new is = ap (λ (m : TimelineValue A). m.base) is

-- ---- the base

module _ {A : Type 0} where
  forward_base : (m new : TimelineValue A) (x : Step A) (r : Reply) → ForwardMoves m x r new → new.base ≡ m.base
  forward_base m new x (reply.Refused fault.TimelineFull) h = same_base m new h.1
  forward_base m new x (reply.Refused (fault.Step r)) h = same_base m new h.2
  forward_base m new x (reply.Refused (fault.Memory at)) h = same_base m new h.3
  forward_base m new x (reply.Moved at kept) h = same_base (extended m x) new h.4
  forward_base m new x _ h = absurd h

  back_base : (m new : TimelineValue A) (r : Reply) → BackMoves m r new → new.base ≡ m.base
  back_base m new (reply.Refused fault.AtStart) h = same_base m new h.1
  back_base m new (reply.Refused (fault.Memory at)) h = same_base m new h.2
  back_base m new (reply.Moved at kept) h = same_base (moved_to m _) new h.3
  back_base m new _ h = absurd h

  redo_base : (m new : TimelineValue A) (r : Reply) → RedoMoves m r new → new.base ≡ m.base
  redo_base m new (reply.Refused fault.AtEnd) h = same_base m new h.1
  redo_base m new (reply.Refused (fault.Memory at)) h = same_base m new h.2
  redo_base m new (reply.Moved at kept) h = same_base (moved_to m _) new h.3
  redo_base m new _ h = absurd h

  jump_base : (m new : TimelineValue A) (n : ℕ) (r : Reply) → JumpMoves m n r new → new.base ≡ m.base
  jump_base m new n (reply.Refused fault.NoSuchPoint) h = same_base m new h.1
  jump_base m new n (reply.Refused (fault.Memory at)) h = same_base (moved_to m at) new h.2
  jump_base m new n (reply.Moved at kept) h = same_base (moved_to m n) new h.3
  jump_base m new n _ h = absurd h

  pub has_run_base : (only : Option (List ℕ)) (seed : Option ℕ) (breaks : BreakMap) (n : ℕ) (m new : TimelineValue A) → HasRun only seed breaks n m new → new.base ≡ m.base
  unfolding HasRun
  has_run_base only seed breaks zero m new h = same_base m new h
  has_run_base only seed breaks (suc n) m new h = same_base (extended h.mid h.step) new h.last.made ∙ has_run_base only seed breaks n m h.mid h.earlier

  pub stops_base : (only : Option (List ℕ)) (seed : Option ℕ) (breaks : BreakMap) (limit : ℕ) (m : TimelineValue A) (ran : ℕ) (why : Stop) (new : TimelineValue A) → StopsAt only seed breaks limit m ran why new → new.base ≡ m.base
  stops_base only seed breaks limit m ran stop.Limit new h = has_run_base only seed breaks ran m new h.1
  stops_base only seed breaks limit m ran stop.Idle new h = has_run_base only seed breaks ran m new h.1
  stops_base only seed breaks limit m ran (stop.Break id) new h = same_base (extended h.mid h.step) new h.last.made ∙ has_run_base only seed breaks h.before m h.mid h.earlier

  run_base : (m new : TimelineValue A) (limit : ℕ) (only : Option (List ℕ)) (seed : Option ℕ) (breaks : BreakMap) (r : Reply) → RunMoves m limit only seed breaks r new → new.base ≡ m.base
  run_base m new limit only seed breaks (reply.Refused fault.TimelineFull) h = same_base m new h.1
  run_base m new limit only seed breaks (reply.Refused (fault.Step NoProcessor)) h = same_base m new h.2
  run_base m new limit only seed breaks (reply.Refused (fault.Memory at)) h = has_run_base only seed breaks h.2.0 m new h.2.2
  run_base m new limit only seed breaks (reply.Ran at kept ran why) h = stops_base only seed breaks limit m ran why new h.2
  run_base m new limit only seed breaks _ h = absurd h

pub keeps_base : (A : Type 0) → MovesKeepBase A
keeps_base A m new (command.Forward x) r h = forward_base m.timeline new.timeline x r h.0
keeps_base A m new command.Back r h = back_base m.timeline new.timeline r h.0
keeps_base A m new command.Redo r h = redo_base m.timeline new.timeline r h.0
keeps_base A m new (command.Jump n) r h = jump_base m.timeline new.timeline n r h.0
keeps_base A m new (command.Run limit only seed) r h = run_base m.timeline new.timeline limit only seed m.breaks r h.0
keeps_base A m new (command.SetBreak b) r h = same_base m.timeline new.timeline h.1
keeps_base A m new (command.ClearBreak id) r h = same_base m.timeline new.timeline h.1

-- ---- the kept steps

on_the_way : (from to at bound : ℕ) → from ≤ bound → to ≤ bound → IsOnTheWay from to at → at ≤ bound
on_the_way from to at bound first last (inl on) = omega (arith, on.1, last)
on_the_way from to at bound first last (inr back) = omega (arith, back.1, first)

module _ {A : Type 0} where
  forward_is : (m new : TimelineValue A) (x : Step A) (r : Reply) → ForwardMoves m x r new → IsTimeline m → IsTimeline new
  forward_is m new x (reply.Refused fault.TimelineFull) h was = same_is m new h.1 was
  forward_is m new x (reply.Refused (fault.Step r)) h was = same_is m new h.2 was
  forward_is m new x (reply.Refused (fault.Memory at)) h was = same_is m new h.3 was
  forward_is m new x (reply.Moved at kept) h was = extended_is m new x h.4 h.0 h.1 was
  forward_is m new x _ h was = absurd h

  back_is : (m new : TimelineValue A) (r : Reply) → BackMoves m r new → IsTimeline m → IsTimeline new
  back_is m new (reply.Refused fault.AtStart) h was = same_is m new h.1 was
  back_is m new (reply.Refused (fault.Memory at)) h was = same_is m new h.2 was
  back_is m new (reply.Moved at kept) h was = moved_is m new _ h.3 (omega (arith, was.within)) was
  back_is m new _ h was = absurd h

  redo_is : (m new : TimelineValue A) (r : Reply) → RedoMoves m r new → IsTimeline m → IsTimeline new
  redo_is m new (reply.Refused fault.AtEnd) h was = same_is m new h.1 was
  redo_is m new (reply.Refused (fault.Memory at)) h was = same_is m new h.2 was
  redo_is m new (reply.Moved at kept) h was = moved_is m new _ h.3 (omega (arith, h.0)) was
  redo_is m new _ h was = absurd h

  jump_is : (m new : TimelineValue A) (n : ℕ) (r : Reply) → JumpMoves m n r new → IsTimeline m → IsTimeline new
  jump_is m new n (reply.Refused fault.NoSuchPoint) h was = same_is m new h.1 was
  jump_is m new n (reply.Refused (fault.Memory at)) h was = moved_is m new at h.2 (on_the_way m.cursor n at (length m.kept) was.within h.0 h.1) was
  jump_is m new n (reply.Moved at kept) h was = moved_is m new n h.3 h.0 was
  jump_is m new n _ h was = absurd h

  pub has_run_cursor : (only : Option (List ℕ)) (seed : Option ℕ) (breaks : BreakMap) (n : ℕ) (m new : TimelineValue A) → HasRun only seed breaks n m new → new.cursor ≡ m.cursor + n
  unfolding HasRun
  has_run_cursor only seed breaks zero m new h = let same : new.cursor ≡ m.cursor = ap (λ (m : TimelineValue A). m.cursor) h in omega (arith, same)
  has_run_cursor only seed breaks (suc n) m new h =
      let before : h.mid.cursor ≡ m.cursor + n = has_run_cursor only seed breaks n m h.mid h.earlier in
      let last : new.cursor ≡ h.mid.cursor + 1 = ap (λ (m : TimelineValue A). m.cursor) h.last.made in
      omega (arith, before, last)

  has_run_is : (only : Option (List ℕ)) (seed : Option ℕ) (breaks : BreakMap) (n : ℕ) (m new : TimelineValue A) → HasRun only seed breaks n m new → m.cursor + n ≤ max_kept → IsTimeline m → IsTimeline new
  unfolding HasRun
  has_run_is only seed breaks zero m new h room was = same_is m new h was
  has_run_is only seed breaks (suc n) m new h room was =
      let before : h.mid.cursor ≡ m.cursor + n = has_run_cursor only seed breaks n m h.mid h.earlier in
      extended_is h.mid new h.step h.last.made (omega (arith, before, room)) (goes_enabled only seed h.mid new h.step h.last) (has_run_is only seed breaks n m h.mid h.earlier (omega (arith, room)) was)

  stops_is : (only : Option (List ℕ)) (seed : Option ℕ) (breaks : BreakMap) (limit : ℕ) (m : TimelineValue A) (ran : ℕ) (why : Stop) (new : TimelineValue A) → StopsAt only seed breaks limit m ran why new → m.cursor + limit ≤ max_kept → IsTimeline m → IsTimeline new
  stops_is only seed breaks limit m ran stop.Limit new h room was = has_run_is only seed breaks ran m new h.1 (omega (arith, h.0, room)) was
  stops_is only seed breaks limit m ran stop.Idle new h room was = has_run_is only seed breaks ran m new h.1 (omega (arith, h.0, room)) was
  stops_is only seed breaks limit m ran (stop.Break id) new h room was =
      let at : h.mid.cursor ≡ m.cursor + h.before = has_run_cursor only seed breaks h.before m h.mid h.earlier in
      extended_is h.mid new h.step h.last.made (omega (arith, at, h.within, room)) (goes_enabled only seed h.mid new h.step h.last) (has_run_is only seed breaks h.before m h.mid h.earlier (omega (arith, h.within, room)) was)

  run_is : (m new : TimelineValue A) (limit : ℕ) (only : Option (List ℕ)) (seed : Option ℕ) (breaks : BreakMap) (r : Reply) → RunMoves m limit only seed breaks r new → IsTimeline m → IsTimeline new
  run_is m new limit only seed breaks (reply.Refused fault.TimelineFull) h was = same_is m new h.1 was
  run_is m new limit only seed breaks (reply.Refused (fault.Step NoProcessor)) h was = same_is m new h.2 was
  run_is m new limit only seed breaks (reply.Refused (fault.Memory at)) h was = has_run_is only seed breaks h.2.0 m new h.2.2 (omega (arith, h.0, h.2.1)) was
  run_is m new limit only seed breaks (reply.Ran at kept ran why) h was = stops_is only seed breaks limit m ran why new h.2 h.0 was
  run_is m new limit only seed breaks _ h was = absurd h

pub keeps_timelines : (A : Type 0) → MovesKeepTimelines A
keeps_timelines A m new (command.Forward x) r h was = forward_is m.timeline new.timeline x r h.0 was
keeps_timelines A m new command.Back r h was = back_is m.timeline new.timeline r h.0 was
keeps_timelines A m new command.Redo r h was = redo_is m.timeline new.timeline r h.0 was
keeps_timelines A m new (command.Jump n) r h was = jump_is m.timeline new.timeline n r h.0 was
keeps_timelines A m new (command.Run limit only seed) r h was = run_is m.timeline new.timeline limit only seed m.breaks r h.0 was
keeps_timelines A m new (command.SetBreak b) r h was = same_is m.timeline new.timeline h.1 was
keeps_timelines A m new (command.ClearBreak id) r h was = same_is m.timeline new.timeline h.1 was
