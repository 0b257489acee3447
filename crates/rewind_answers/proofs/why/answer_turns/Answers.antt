use Rattle.std.proofs.Common.{false, map, sym, true}
use Rattle.std.proofs.lemmas.Result.{IfOk-weaker}
use Rattle.nd_state_json.specs.StateText.{row, natural}
use Rattle.rewind_replies.specs.Replies.{turns}
use Rattle.rewind_answers.specs.Explained.{listed, unlisted}
use Rattle.rewind_answers.proofs.TextLaws.{tells}
use Rattle.rewind_answers.proofs.why.answer_turns.Goals as goal

pub returns-then-listed : goal.returns-then-listed
returns-then-listed c = record {
  reply = tells _ (turns c.in-Ok.listed.at_lo (row (map natural c.as_slice-turns.result.now)) true) c.text_of.result c.text_of.ensures
      (listed c.in-Ok.listed c.in-Ok.ensures.may c.in-Ok.ensures.listed
      (λ i. turns c.in-Ok.listed.at_lo (row (map natural (c.as_slice-turns.ensures i))) (sym c.if-listed.true i)));
}

pub returns-else-listed : goal.returns-else-listed
returns-else-listed c = record {
  reply = tells _ (turns c.in-Ok.listed.at_lo (row (map natural c.as_slice-turns.result.now)) false) c.text_of-in-Ok.result c.text_of-in-Ok.ensures
      (listed c.in-Ok.listed c.in-Ok.ensures.may c.in-Ok.ensures.listed
      (λ i. turns c.in-Ok.listed.at_lo (row (map natural (c.as_slice-turns.ensures i))) (sym c.if-listed.false i)));
}

pub returns-in-Err : goal.returns-in-Err
returns-in-Err c = record {
  reply = IfOk-weaker c.refuse_turns.result _ _ (λ t one. (one.0, unlisted c.in-Err.fault c.in-Err.ensures.cannot one.1, one.2)) c.refuse_turns.ensures.reply;
}
