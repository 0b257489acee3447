use Rattle.std.proofs.Common.{◌≡◌, ◌∙◌, Some, ap}
use Rattle.nd_at_rest.specs.Faults.{code_of_rest}
use Rattle.rewind_replies.specs.Replies.{fault}
use Rattle.rewind_answers.specs.AtRest.{rest_fault}
use Rattle.rewind_answers.proofs.TextLaws.{tells}
use Rattle.rewind_answers.proofs.at_rest.refuse_rest.Goals as goal

pub returns-in-BadRange : goal.returns-in-BadRange
returns-in-BadRange c = record {
  reply = tells (λ v. Some v ≡ rest_fault c.args.fault) (fault c.code.result) c.text_of.result c.text_of.ensures
      (rw (c.in-BadRange.is) (ap (λ k. Some (fault k)) (c.code.ensures ∙ ap code_of_rest c.in-BadRange.is)));
}
