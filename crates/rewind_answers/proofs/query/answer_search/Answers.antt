use Rattle.std.proofs.lemmas.Result.{IfOk-weaker}
use Rattle.rewind_replies.specs.Replies.{found}
use Rattle.rewind_answers.proofs.AnswerLaws.{found_replies, failed_replies}
use Rattle.rewind_answers.proofs.TextLaws.{tells}
use Rattle.rewind_answers.proofs.query.answer_search.Goals as goal

pub returns-in-Ok : goal.returns-in-Ok
returns-in-Ok g c = record {
  reply = tells _ (found c.in-Ok.least) c.text_of.result c.text_of.ensures
      (found_replies (c.args.state.now).machine.timeline c.timeline-timeline.result.now c.args.search.now c.in-Ok.least
      c.timeline-timeline.ensures.value c.in-Ok.ensures.may c.in-Ok.ensures.found);
}

pub returns-in-Err : goal.returns-in-Err
returns-in-Err g c = record {
  reply = IfOk-weaker c.refuse_search.result _ _ (λ t told. (
    told.0,
    failed_replies (c.args.state.now).machine.timeline c.timeline-timeline.result.now c.args.search.now c.in-Err.fault told.0
        c.timeline-timeline.ensures.value c.in-Err.ensures.fails told.1,
    told.2,
  )) c.refuse_search.ensures.reply;
}
