use Rattle.std.proofs.Common.{◌<◌, ◌∙◌, ap, arith, inl, inr, length, refl}
use Rattle.nd_delta.specs.Delta.{entries}
use Rattle.nd_state_json.specs.StateText.{entries_data}
use Rattle.rewind_replies.specs.Replies.{known, no_processor}
use Rattle.rewind_answers.proofs.TextLaws.{tells}
use Rattle.rewind_answers.proofs.query.answer_view.Goals as goal

pub returns-then-q-n : goal.returns-then-q-n
returns-then-q-n c = record {
  reply = tells _ no_processor c.no_processor.result c.no_processor.ensures.reply (inl (omega (arith, c.n.ensures.value, c.if-q-n.true), refl));
}

pub returns : goal.returns
returns c = record {
  reply =
      let there : c.args.q < length (c.args.cluster.now).processors = omega (arith, c.n.ensures.value) in
      let listed = ap entries (c.counts.ensures ∙ c.view.ensures.map) in
      tells _ (known (entries_data c.graph.result.now (entries c.counts.result.now))) c.text_of.result c.text_of.ensures
      (inr (there, λ i. known (entries_data (c.graph.ensures i) (listed i))));
}
