use Rattle.std.proofs.Common.{◌≡◌, ◌≢◌, ◌∙◌, ap, refl, Some}
use Rattle.nd_history.specs.Faults.{code_of_changes}
use Rattle.nd_history.specs.declared.fault.ChangesFault.{ChangesFault}
use Rattle.nd_history.specs.declared.fault.ChangesFault.TheVariants as refused
use Rattle.rewind_replies.specs.Replies.{fault}
use Rattle.rewind_answers.specs.Explained.{changes_fault}
use Rattle.rewind_answers.proofs.TextLaws.{tells}
use Rattle.rewind_answers.proofs.why.refuse_changes.Goals as goal

told : (e : ChangesFault) → e ≢ refused.Memory → Some (fault (code_of_changes e)) ≡ changes_fault e
told refused.Memory some = absurd (some refl)
told _ some = refl

pub returns-in_default : goal.returns-in_default
returns-in_default c = record {
  reply = tells _ (fault c.code.result) c.text_of.result c.text_of.ensures (ap (λ e. Some (fault e)) c.code.ensures ∙ told c.args.fault c.in_default.not-Memory);
}
