use Rattle.std.proofs.Common.{List, arith, inl, inr, refl}
use Rattle.serde_json.specs.Data.{Data}
use Rattle.nd_graph.specs.Graph.{Dataflow}
use Rattle.nd_why.specs.Account.{Account}
use Rattle.rewind_replies.specs.Reasons.{reasons_data}
use Rattle.rewind_replies.specs.Replies.{no_processor, why}
use Rattle.rewind_answers.proofs.TextLaws.{tells}
use Rattle.rewind_answers.proofs.why.answer_why.Goals as goal

pub returns-then-asked-n : goal.returns-then-asked-n
returns-then-asked-n c = record {
  reply = tells _ no_processor c.no_processor.result c.no_processor.ensures.reply (inl (omega (arith, c.n.ensures.value, c.if-asked-n.true), refl));
}

pub returns : goal.returns
returns c = record {
  reply =
      let told : Dataflow → List Account → Data = λ g accounts. why c.finished-finished.result c.has_passed-passed.result (reasons_data g accounts) in
      tells _ (told c.graph.result.now c.as_slice-reasons.result.now) c.text_of.result c.text_of.ensures (inr (
        omega (arith, c.n.ensures.value),
        record {
          accounts = c.in-Ok.reasons;
          whole = c.in-Ok.ensures.whole;
          passed = c.has_passed-passed.result;
          has_passed = c.has_passed-passed.ensures;
          finished = c.finished-finished.result;
          is_finished = c.finished-finished.ensures;
          told = λ i. told (c.graph.ensures i) (c.as_slice-reasons.ensures i);
        },
      ));
}
