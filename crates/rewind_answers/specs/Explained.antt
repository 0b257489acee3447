-- The replies to queries about the kept steps and what one of them changed, about why a processor does not consider a pointstamp
-- finished or anything strictly before it, and about when its view changed and when a condition turned.
use Rattle.std.specs.Prelude.{◌≡◌, ◌-◌, ◌↔◌, IsTrue, Bool, true, ℕ, ◌<◌, ◌≤◌, ◌⊎◌, List, map, length, Option, Some, None, slice_get}
use Rattle.std.specs.declared.alloc.Global.{Global}
use Rattle.serde_json.specs.Data.{Data}
use Rattle.nd_graph.specs.Graph.{Dataflow}
use Rattle.nd_paths.specs.declared.point.Pointstamp.{Pointstamp}
use Rattle.nd_view.specs.View.{IsPassedBefore}
use Rattle.nd_protocol.specs.State.{ClusterState, view}
use Rattle.nd_protocol.specs.declared.step.Step.{Step}
use Rattle.nd_state_json.specs.StateText.{row, natural}
use Rattle.nd_timeline.specs.Timeline.{TimelineValue, cluster_of}
use Rattle.nd_replies.specs.Faults.{code_of}
use Rattle.nd_replies.specs.declared.fault.Fault.TheVariants.{NoSuchPoint}
use Rattle.nd_why.specs.Account.{Account}
use Rattle.nd_why.specs.Why.{IsWhy, IsFinishedBefore}
use Rattle.nd_why.specs.declared.question.Question.{Question}
use Rattle.nd_steps.specs.Effect.{lists_of}
use Rattle.nd_history.specs.ChangeList.{AreFirstChanges}
use Rattle.nd_history.specs.ViewChanges.{changes_of, CanList, CannotList}
use Rattle.nd_history.specs.Faults.{code_of_changes, code_of_turns}
use Rattle.nd_history.specs.Effects.{IsEffect, HasNoEffect, IsLedTo, code_of_effect}
use Rattle.nd_history.specs.Least.{HoldsAt}
use Rattle.nd_history.specs.Turns.{AreListed, MayTurn, CannotTurn}
use Rattle.nd_history.specs.declared.effects.StepEffect.{StepEffect}
use Rattle.nd_history.specs.declared.effects.EffectFault.{EffectFault}
use Rattle.nd_history.specs.declared.effects.EffectFault.TheVariants as effects
use Rattle.nd_history.specs.declared.turn_list.TurnList.{TurnList}
use Rattle.nd_history.specs.declared.fault.TurnsFault.{TurnsFault}
use Rattle.nd_history.specs.declared.fault.TurnsFault.TheVariants as turned
use Rattle.nd_history.specs.declared.change_list.ChangeList.{ChangeList}
use Rattle.nd_history.specs.declared.fault.ChangesFault.{ChangesFault}
use Rattle.nd_history.specs.declared.fault.ChangesFault.TheVariants as changes
use Rattle.rewind_replies.specs.Replies.{fault, no_processor, exported, kept_step, changed, why, effect, turns}
use Rattle.nd_state_json.specs.Objects.{object_of}
use Rattle.rewind_replies.specs.Reasons.{reasons_data}
use Rattle.rewind_replies.specs.Changes.{changes_data}
use Rattle.rewind_replies.specs.Effects.{effect_data}
use Rattle.rewind_forms.specs.declared.queries.ViewChanges.{ViewChanges}
use Rattle.rewind_forms.specs.declared.queries.ConditionTurns.{ConditionTurns}

-- ---- kept steps

-- each step as the object of its command line, in order
abbrev pub steps_data : Dataflow → List (Step Global) → Data
steps_data g steps = row (map (object_of g) steps)

-- all kept steps, those after the cursor too, and the cursor
abbrev pub ExportReply : TimelineValue Global → Data → Type 0
ExportReply m reply = reply ≡ exported m.cursor (steps_data (cluster_of m).graph m.kept)

-- the kept step that leads to a position; no step leads to position 0, or beyond the last
abbrev pub StepReply : TimelineValue Global → ℕ → Data → Type 0
StepReply m to reply =
    (((to ≡ 0) ⊎ (length m.kept < to)) × (reply ≡ fault (code_of NoSuchPoint)))
    ⊎ ((0 < to) × ((x : Step Global) × (slice_get m.kept (to - 1) ≡ Some x) × (reply ≡ kept_step (object_of (cluster_of m).graph x))))

-- ---- what a step changed

-- the reply to a query for an effect that fails; none if memory ran out
abbrev pub effect_fault : EffectFault → Option Data
effect_fault effects.Memory = None
effect_fault effects.NoSuchPoint = Some (fault (code_of_effect effects.NoSuchPoint))

-- The reply to a query for an effect: the kept step that leads to the position, with each key and each queue at which the
-- clusters before and after it differ; or the error that no step leads there.
pub data EffectReply (m : TimelineValue Global) (to : ℕ) (reply : Data) : Type 0 where
  effected : (e : StepEffect Global) → IsLedTo m to → IsEffect m to e
      → reply ≡ effect (effect_data (cluster_of m).graph (lists_of e.changed)) (object_of (cluster_of m).graph e.step) → EffectReply m to reply
  uneffected : (e : EffectFault) → HasNoEffect m to e → Some reply ≡ effect_fault e → EffectReply m to reply

-- ---- why

-- the reasons why the asked processor does not consider everything before the asked pointstamp finished; whether its view has
-- passed all of that; and whether all of that is finished
pub record ReportsReasons (s : ClusterState) (asked : Question) (reply : Data) : Type 0 where
  pub accounts : List Account
  pub whole : IsWhy s asked accounts
  pub passed : Bool
  pub has_passed : IsTrue passed ↔ IsPassedBefore s.graph asked.extent (view s asked.q) asked.point
  pub finished : Bool
  pub is_finished : IsTrue finished ↔ IsFinishedBefore s asked.extent asked.point
  pub told : reply ≡ why finished passed (reasons_data s.graph accounts)

abbrev pub WhyReply : ClusterState → Question → Data → Type 0
WhyReply s asked reply =
    ((length s.processors ≤ asked.q) × (reply ≡ no_processor))
    ⊎ ((asked.q < length s.processors) × ReportsReasons s asked reply)

-- ---- changes

-- the reply to a query for changes that fails; none if memory ran out
abbrev pub changes_fault : ChangesFault → Option Data
changes_fault changes.Memory = None
changes_fault e = Some (fault (code_of_changes e))

-- The reply to a query for changes: the first of them, and whether there are more; or the first error whose condition holds.
pub data ChangesReply (m : TimelineValue Global) (c : ViewChanges) (reply : Data) : Type 0 where
  told : (telling : ChangeList Global) → CanList m c.q c.lo c.hi → AreFirstChanges (changes_of m c.q c.point c.lo c.hi) telling
      → reply ≡ changed (changes_data telling.changes) telling.more → ChangesReply m c reply
  untold : (e : ChangesFault) → CannotList m c.q c.lo c.hi e → Some reply ≡ changes_fault e → ChangesReply m c reply

-- ---- turns

-- the reply to a query for turns that fails; none if memory ran out
abbrev pub turns_fault : TurnsFault → Option Data
turns_fault turned.Memory = None
turns_fault e = Some (fault (code_of_turns e))

-- The reply to a query for turns: the first of them, whether there are more, and whether the condition holds at the first
-- position; or the first error whose condition holds.
pub data TurnsReply (m : TimelineValue Global) (c : ConditionTurns) (reply : Data) : Type 0 where
  listed : (listing : TurnList Global) → MayTurn m c.lo c.hi → AreListed (HoldsAt m c.when) c.lo c.hi listing
      → reply ≡ turns listing.at_lo (row (map natural listing.positions)) listing.more → TurnsReply m c reply
  unlisted : (e : TurnsFault) → CannotTurn m c.lo c.hi e → Some reply ≡ turns_fault e → TurnsReply m c reply
