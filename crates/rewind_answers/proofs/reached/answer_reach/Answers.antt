use Rattle.std.proofs.Common.{◌≡◌, Some}
use Rattle.rewind_answers.specs.Reached.{ReachReply, reached, unanswered, reached_data, reach_fault}
use Rattle.rewind_answers.proofs.TextLaws.{tells_so}
use Rattle.rewind_answers.proofs.reached.answer_reach.Goals as goal

pub returns-in-Ok : goal.returns-in-Ok
returns-in-Ok c = record {
  reply = tells_so (λ v. v ≡ reached_data c.args.cluster.now.graph c.in-Ok.reached) (ReachReply c.args.cluster.now c.args.asked.now) c.reached_reply.result
      (λ d same. reached c.in-Ok.reached c.in-Ok.ensures.may c.in-Ok.ensures.reached c.in-Ok.ensures.exact same) c.reached_reply.ensures.reply;
}

pub returns-in-Err : goal.returns-in-Err
returns-in-Err c = record {
  reply = tells_so (λ v. Some v ≡ reach_fault c.in-Err.fault) (ReachReply c.args.cluster.now c.args.asked.now) c.refuse_reach.result
      (λ d told. unanswered c.in-Err.fault c.in-Err.ensures.cannot told) c.refuse_reach.ensures.reply;
}
