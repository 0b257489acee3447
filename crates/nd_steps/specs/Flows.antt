-- The consequence of a take: what arrives for the record that is taken; and the changes of such a take.
use Rattle.std.specs.Prelude.{ℕ, pos, negsuc, Bool, cond, List, [], ◌∷◌, ◌++◌, length, nat_lt, if◌then◌else◌}
use Rattle.nd_time.specs.Time.{Time, ingress_of, egress_of, feedback_of, last_of}
use Rattle.nd_time.specs.Limits.{max_depth, max_counter}
use Rattle.nd_graph.specs.declared.op.Action.{Action}
use Rattle.nd_graph.specs.declared.op.Action.TheVariants.{Identity, Ingress, Egress, Feedback}
use Rattle.nd_processor.specs.declared.key.ValueAt.{ValueAt}
use Rattle.nd_protocol.specs.Steps.{record_key}
use Rattle.nd_protocol.specs.declared.step.Step.{Step}
use Rattle.nd_protocol.specs.declared.step.Step.TheVariants.{Feed, Take, Notice, Release, Send, Broadcast, Receive}
use Rattle.nd_steps.specs.Changes.{at_key}
use Rattle.nd_steps.specs.declared.change.Change.{Change}
use Rattle.nd_steps.specs.declared.slot.Slot.TheVariants.{Records, Sink, Unsent}
use Rattle.nd_steps.specs.declared.consequence.Consequence.{Consequence}
use Rattle.nd_steps.specs.declared.consequence.Consequence.TheVariants.{Nothing, Record, Count}
use Rattle.nd_steps.specs.declared.flow.Flow.{Flow}

-- the time after an action; an ingress at the limit of depth, or a feedback at the limit of a counter, leaves the time as it is
abbrev pub past_action : Action → Time → Time
past_action Identity t = t
past_action Ingress t = if nat_lt (length t.counters) max_depth then record { epoch = t.epoch; counters = ingress_of t.counters } else t
past_action Egress t = record { epoch = t.epoch; counters = egress_of t.counters }
past_action Feedback t = if nat_lt (last_of t.counters) max_counter then record { epoch = t.epoch; counters = feedback_of t.counters } else t

-- the record that arrives for the one that is taken, at the time after the action; the taken record itself if none arrives
abbrev pub come_key : ValueAt → Consequence → ValueAt
come_key gone Nothing = gone
come_key gone (Record action q edge value) = record_key edge (past_action action gone.point.time) value
come_key gone (Count vertex) = gone

-- the changes of what arrives when processor p takes the record `gone`, where `key` is the record that arrives, if one does
abbrev pub arriving_as : ℕ → ValueAt → ValueAt → Consequence → List Change
arriving_as p gone key Nothing = []
arriving_as p gone key (Record action q edge value) = at_key q (Records key) (pos 1) ∷ at_key p (Unsent key.point) (pos 1) ∷ []
arriving_as p gone key (Count vertex) = at_key p (Sink (record { vertex = vertex; value = gone.value })) (pos 1) ∷ []

-- the changes of what arrives when processor p takes the record `gone`
abbrev pub arriving : ℕ → ValueAt → Consequence → List Change
arriving p gone come = arriving_as p gone (come_key gone come) come

-- the changes of a take by processor p with this consequence, in a fixed order
abbrev pub come_changes : ℕ → ValueAt → Consequence → List Change
come_changes p gone come = at_key p (Records gone) (negsuc 0) ∷ at_key p (Unsent gone.point) (negsuc 0) ∷ arriving p gone come

-- the changes of a take in the order in which they are applied; `comes` are those of what arrives
abbrev pub take_order : ℕ → ValueAt → Bool → List Change → List Change
take_order p gone late comes =
    let unsent : Change = at_key p (Unsent gone.point) (negsuc 0) in
    let goes : List Change = at_key p (Records gone) (negsuc 0) ∷ [] in
    cond late (comes ++ unsent ∷ goes) (unsent ∷ comes ++ goes)

-- the changes of a flow: the record is removed last, and its pointstamp is removed from what is unsent before what arrives is added, or
-- after it if the flow is late
abbrev pub flow_changes : ℕ → ValueAt → Flow → List Change
flow_changes p gone f = take_order p gone f.late (arriving p gone f.come)

-- the changes that a flow stands for, in this order; none if the step is not a take
abbrev pub keyed_flow : {A : Type 0} → Step A → Flow → List Change
keyed_flow (Feed p vertex values _) f = []
keyed_flow (Take p edge t value) f = flow_changes p (record_key edge t value) f
keyed_flow (Notice p vertex t) f = []
keyed_flow (Release p vertex times) f = []
keyed_flow (Send p vertex batch) f = []
keyed_flow (Broadcast p part) f = []
keyed_flow (Receive from to) f = []
