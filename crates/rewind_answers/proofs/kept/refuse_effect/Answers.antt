use Rattle.std.proofs.Common.{◌∙◌, ap, refl, Some}
use Rattle.rewind_replies.specs.Replies.{fault}
use Rattle.rewind_answers.proofs.TextLaws.{tells}
use Rattle.rewind_answers.proofs.kept.refuse_effect.Goals as goal

pub returns-in-NoSuchPoint : goal.returns-in-NoSuchPoint
returns-in-NoSuchPoint c = record {
  reply = tells _ (fault c.code.result) c.text_of.result c.text_of.ensures (ap (λ e. Some (fault e)) c.code.ensures ∙ rw c.in-NoSuchPoint.is refl);
}
