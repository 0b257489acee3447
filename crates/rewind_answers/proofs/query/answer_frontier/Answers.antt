use Rattle.std.proofs.Common.{◌<◌, arith, inl, length, refl}
use Rattle.nd_state_json.specs.StateText.{entries_data}
use Rattle.rewind_replies.specs.Replies.{frontier, no_processor}
use Rattle.rewind_answers.proofs.AnswerLaws.{frontier_replies}
use Rattle.rewind_answers.proofs.TextLaws.{tells}
use Rattle.rewind_answers.proofs.query.answer_frontier.Goals as goal

pub returns-then-q-n : goal.returns-then-q-n
returns-then-q-n c = record {
  reply = tells _ no_processor c.no_processor.result c.no_processor.ensures.reply (inl (omega (arith, c.n.ensures.value, c.if-q-n.true), refl));
}

pub returns : goal.returns
returns c = record {
  reply =
      let s = c.args.cluster.now in
      let there : c.args.q < length s.processors = omega (arith, c.n.ensures.value) in
      let shown = entries_data c.graph.result.now c.entries.result.now in
      tells _ (frontier shown) c.text_of.result c.text_of.ensures
      (frontier_replies s c.args.q c.paths.result.now c.view.result.now.map c.in_ok-first.first shown there
      c.paths.ensures c.view.ensures.map c.in_ok-first.ensures.value (λ i. entries_data (c.graph.ensures i) (c.entries.ensures.listed i)));
}
