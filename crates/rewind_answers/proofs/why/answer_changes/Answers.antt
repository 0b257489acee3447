use Rattle.std.proofs.Common.{false, sym, true}
use Rattle.std.proofs.lemmas.Result.{IfOk-weaker}
use Rattle.rewind_replies.specs.Changes.{changes_data}
use Rattle.rewind_replies.specs.Replies.{changed}
use Rattle.rewind_answers.specs.Explained.{told, untold}
use Rattle.rewind_answers.proofs.TextLaws.{tells}
use Rattle.rewind_answers.proofs.why.answer_changes.Goals as goal

pub returns-then-told : goal.returns-then-told
returns-then-told c = record {
  reply = tells _ (changed (changes_data c.as_slice-changes.result.now) true) c.text_of.result c.text_of.ensures
      (told c.in-Ok.told c.in-Ok.ensures.may c.in-Ok.ensures.told (λ i. changed (changes_data (c.as_slice-changes.ensures i)) (sym c.if-told.true i)));
}

pub returns-else-told : goal.returns-else-told
returns-else-told c = record {
  reply = tells _ (changed (changes_data c.as_slice-changes.result.now) false) c.text_of-in-Ok.result c.text_of-in-Ok.ensures
      (told c.in-Ok.told c.in-Ok.ensures.may c.in-Ok.ensures.told (λ i. changed (changes_data (c.as_slice-changes.ensures i)) (sym c.if-told.false i)));
}

pub returns-in-Err : goal.returns-in-Err
returns-in-Err c = record {
  reply = IfOk-weaker c.refuse_changes.result _ _ (λ t one. (one.0, untold c.in-Err.fault c.in-Err.ensures.cannot one.1, one.2)) c.refuse_changes.ensures.reply;
}
