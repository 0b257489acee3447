use Rattle.std.proofs.Common.{◌<◌, ap, arith, inl, inr, length, refl}
use Rattle.nd_state_json.specs.StateText.{point_data}
use Rattle.rewind_replies.specs.Replies.{no_processor, not_passed, passed}
use Rattle.rewind_answers.proofs.TextLaws.{tells}
use Rattle.rewind_answers.proofs.query.answer_passed.Goals as goal

pub returns-then-q-n : goal.returns-then-q-n
returns-then-q-n c = record {
  reply = tells _ no_processor c.no_processor.result c.no_processor.ensures.reply (inl (omega (arith, c.n.ensures.value, c.if-q-n.true), refl));
}

pub returns-in-None : goal.returns-in-None
returns-in-None c = record {
  reply = tells _ passed c.text_of.result c.text_of.ensures (inr (omega (arith, c.n.ensures.value), inl ((c.in-None.ensures.passed.0 refl, c.in-None.ensures.finished refl c.requires), refl)));
}

pub returns-in-Some : goal.returns-in-Some
returns-in-Some c = record {
  reply =
      let blocker = c.in-Some.blocker in
      let there : c.args.q < length c.args.cluster.now.processors = omega (arith, c.n.ensures.value) in
      tells _ (not_passed (point_data c.graph.result.now blocker)) c.text_of-in-Some.result c.text_of-in-Some.ensures
      (inr (there, inr (blocker, c.in-Some.ensures.least, ap (λ g. not_passed (point_data g blocker)) c.graph.ensures)));
}
