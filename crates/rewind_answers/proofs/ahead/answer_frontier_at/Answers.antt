use Rattle.std.proofs.Common.{arith, inl, inr, refl}
use Rattle.rewind_replies.specs.Replies.{no_processor, times}
use Rattle.rewind_replies.specs.Times.{times_data}
use Rattle.rewind_answers.proofs.TextLaws.{tells}
use Rattle.rewind_answers.proofs.ahead.answer_frontier_at.Goals as goal

pub returns-then-q-n : goal.returns-then-q-n
returns-then-q-n c = record {
  reply = tells _ no_processor c.no_processor.result c.no_processor.ensures.reply (inl (omega (arith, c.n.ensures.value, c.if-q-n.true), refl));
}

pub returns : goal.returns
returns c = record {
  reply = tells _ (times (times_data c.as_slice.result.now)) c.text_of.result c.text_of.ensures (inr (
    omega (arith, c.n.ensures.value, c.if-q-n.false),
    record {
      times_there = c.in-Ok.times.items;
      arrivals = c.in-Ok.ensures.value;
      exact = c.in-Ok.ensures.exact;
      apart = c.in-Ok.ensures.apart;
      told = λ i. times (times_data (c.as_slice.ensures.value i));
    },
  ));
}
