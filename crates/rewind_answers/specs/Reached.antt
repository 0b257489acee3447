-- The reply to a question for what can still happen.
use Rattle.std.specs.Prelude.{◌≡◌, ℕ, Bool, Option, Some, None}
use Rattle.std.specs.declared.alloc.Global.{Global}
use Rattle.serde_json.specs.Data.{Data}
use Rattle.nd_graph.specs.Graph.{Dataflow}
use Rattle.nd_protocol.specs.State.{ClusterState}
use Rattle.nd_reach.specs.Faults.{MayReach, CannotReach, code_of_reach}
use Rattle.nd_reach.specs.Reach.{IsReached, IsExact}
use Rattle.nd_reach.specs.declared.reached.Reached.{Reached}
use Rattle.nd_reach.specs.declared.reached.Reached.TheVariants.{Way, Nowhere}
use Rattle.nd_reach.specs.declared.fault.ReachFault.{ReachFault}
use Rattle.nd_reach.specs.declared.fault.ReachFault.TheVariants as reach
use Rattle.rewind_replies.specs.Replies.{fault, way, no_way}
use Rattle.rewind_forms.specs.declared.queries.Reach.{Reach}
use Rattle.rewind_answers.specs.Explained.{steps_data}

-- the answer as a reply
abbrev pub reached_data : Dataflow → Reached Global → Data
reached_data g (Way steps) = way (steps_data g steps)
reached_data g (Nowhere states whole) = no_way states whole

-- the reply to a question that is not answered; none if memory ran out
abbrev pub reach_fault : ReachFault → Option Data
reach_fault reach.Memory = None
reach_fault reach.BadRange = Some (fault (code_of_reach reach.BadRange))

-- The reply to a question for what can still happen from a state: the steps of the least way to a state at which the condition
-- holds, or how many states were looked at; or the error that the limit is out of range.
pub data ReachReply (s : ClusterState) (asked : Reach) (reply : Data) : Type 0 where
  reached : (answer : Reached Global) → MayReach asked.limit → IsReached asked.allowed asked.when asked.limit s answer
      → IsExact asked.allowed asked.when s answer → reply ≡ reached_data s.graph answer → ReachReply s asked reply
  unanswered : (e : ReachFault) → CannotReach asked.limit e → Some reply ≡ reach_fault e → ReachReply s asked reply
