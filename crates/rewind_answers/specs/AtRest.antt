-- The reply to the question why a processor does not consider a pointstamp finished when all that can happen has happened.
use Rattle.std.specs.Prelude.{◌≡◌, ◌↔◌, ◌<◌, ◌≤◌, ℕ, Bool, IsTrue, Option, Some, None, [], length}
use Rattle.std.specs.declared.alloc.Global.{Global}
use Rattle.serde_json.specs.Data.{Data}
use Rattle.nd_protocol.specs.State.{ClusterState}
use Rattle.nd_at_rest.specs.Run.{word_of}
use Rattle.nd_at_rest.specs.AtRest.{IsAtRestWhy}
use Rattle.nd_at_rest.specs.Faults.{MayRun, CannotAnswer, code_of_rest}
use Rattle.nd_at_rest.specs.declared.answer.AtRest.{AtRest}
use Rattle.nd_at_rest.specs.declared.fault.RestFault.{RestFault}
use Rattle.nd_at_rest.specs.declared.fault.RestFault.TheVariants as rest
use Rattle.rewind_replies.specs.Reasons.{reasons_data}
use Rattle.rewind_replies.specs.Replies.{fault, no_processor, why_at_rest}
use Rattle.rewind_forms.specs.declared.queries.WhyAtRest.{WhyAtRest}

-- the answer as a reply; the asked processor's view has passed the asked pointstamp if there is no reason
pub record ReportsRest (s : ClusterState) (turn : ℕ) (query : WhyAtRest) (reply : Data) : Type 0 where
  pub answer : AtRest Global
  pub whole : IsAtRestWhy s query.asked turn query.limit answer
  pub passed : Bool
  pub has_passed : IsTrue passed ↔ (answer.reasons ≡ [])
  pub told : reply ≡ why_at_rest answer.finished passed answer.ran (reasons_data s.graph answer.reasons) (word_of answer.stop)

-- the reply to a question that is not answered; none if memory ran out
abbrev pub rest_fault : RestFault → Option Data
rest_fault rest.Memory = None
rest_fault rest.BadRange = Some (fault (code_of_rest rest.BadRange))

-- The reply to such a question about the state s, whose run to rest begins with this turn: how many steps the run executes, why it
-- stops, and what holds of the asked pointstamp where it stops; or the first error whose condition holds.
pub data WhyAtRestReply (s : ClusterState) (turn : ℕ) (query : WhyAtRest) (reply : Data) : Type 0 where
  missing : length s.processors ≤ query.asked.q → reply ≡ no_processor → WhyAtRestReply s turn query reply
  rested : query.asked.q < length s.processors → MayRun query.limit → ReportsRest s turn query reply → WhyAtRestReply s turn query reply
  unanswered : (e : RestFault) → query.asked.q < length s.processors → CannotAnswer query.limit e → Some reply ≡ rest_fault e
      → WhyAtRestReply s turn query reply
