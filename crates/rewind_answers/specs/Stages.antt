-- The phases that a run's values stand for.
use Rattle.std.specs.Prelude.{◌≡◌, ◌⊎◌, Bool, true, false, ℕ, List, [], ◌∷◌, length, Option, Some, None, Result, Vec}
use Rattle.serde_json.specs.Data.{Data}
use Rattle.std.specs.declared.alloc.Global.{Global}
use Rattle.nd_graph.specs.Graph.{Dataflow}
use Rattle.nd_graph.specs.declared.fault.GraphFault.{GraphFault}
use Rattle.nd_session.specs.State.{StateValue}
use Rattle.rewind_replies.specs.Replies.{IsReply}
use Rattle.rewind_forms.specs.declared.version.Version.{Version}
use Rattle.rewind_answers.specs.Answers.{Logged, Phase, unopened, unstarted, running, refused, StartReplies}
use Rattle.rewind_replies.specs.Errors.{error_data}
use Rattle.rewind_replies.specs.Replies.{graph}
use Rattle.rewind_answers.specs.declared.answer.First.{First}
use Rattle.rewind_answers.specs.declared.answer.First.TheVariants.{Started, Refused}
use Rattle.rewind_answers.specs.declared.stage.RunningScript.{RunningScript}
use Rattle.rewind_answers.specs.declared.stage.Stage.{Stage}
use Rattle.rewind_answers.specs.declared.stage.Stage.TheVariants.{Unopened, Unstarted, Running}

-- the machine of a `State`, and the length of its log
abbrev pub logged : StateValue Global → Logged
logged s = record { machine = s.machine; entries = length s.log }

abbrev pub phase_in : RunningScript → Phase
phase_in script = running script.version (logged script.state)

-- the phase that a stage stands for
abbrev pub phase_of : Stage → Phase
phase_of (Unopened processors) = unopened processors
phase_of (Unstarted v processors) = unstarted v processors
phase_of (Running script) = phase_in script

-- the reply to the graph's line
abbrev pub first_data : First → Data
first_data (Started s) = graph s.reply.locations s.reply.processors
first_data (Refused e) = error_data e

-- the phase after the graph's line
abbrev pub first_phase : Version → First → Phase
first_phase v (Started s) = running v (logged s.state)
first_phase v (Refused e) = refused

-- what the graph's line gives
abbrev pub Starts : Version → ℕ → Result Dataflow GraphFault → First → Type 0
Starts v processors graph first = StartReplies v processors graph (first_data first ∷ []) (first_phase v first)

-- the phase after an answer: refused if the answer is the last one
abbrev pub phase_after : Bool → Stage → Phase
phase_after true stage = refused
phase_after false stage = phase_of stage

-- what is left where memory ran out: s itself, or what follows it by an answer whose text is lost
abbrev pub IsOrFollows : {X S : Type 0} → (X → S → Type 0) → S → S → Type 0
IsOrFollows {X} May s t = (t ≡ s) ⊎ ((x : X) × May x t)

-- the text of an answer, if it has one, is that of replies which may be given: none or one
abbrev pub AreReplies : (List Data → Type 0) → Option (Vec ℕ Global) → Type 0
AreReplies May None = May []
AreReplies May (Some text) = IsReply (λ reply. May (reply ∷ [])) text.items
