use Rattle.std.proofs.Common.{◌≡◌, ◌∙◌, Some, ap}
use Rattle.nd_reach.specs.Faults.{code_of_reach}
use Rattle.rewind_replies.specs.Replies.{fault}
use Rattle.rewind_answers.specs.Reached.{reach_fault}
use Rattle.rewind_answers.proofs.TextLaws.{tells}
use Rattle.rewind_answers.proofs.reached.refuse_reach.Goals as goal

pub returns-in-BadRange : goal.returns-in-BadRange
returns-in-BadRange c = record {
  reply = tells (λ v. Some v ≡ reach_fault c.args.fault) (fault c.code.result) c.text_of.result c.text_of.ensures
      (rw (c.in-BadRange.is) (ap (λ k. Some (fault k)) (c.code.ensures ∙ ap code_of_reach c.in-BadRange.is)));
}
