use Rattle.std.proofs.Common.{false, sym, true}
use Rattle.rewind_replies.specs.Candidates.{candidates_data}
use Rattle.rewind_replies.specs.Replies.{candidates}
use Rattle.rewind_answers.proofs.TextLaws.{tells}
use Rattle.rewind_answers.proofs.ahead.answer_candidates.Goals as goal

pub returns-then-candidates : goal.returns-then-candidates
returns-then-candidates c = record {
  reply = tells _ (candidates (candidates_data c.graph.result.now c.as_slice-list.result.now) true) c.text_of.result c.text_of.ensures (record {
    listing = c.in-Ok.candidates;
    listed = c.in-Ok.ensures.listed;
    told = λ i. candidates (candidates_data (c.graph.ensures i) (c.as_slice-list.ensures i)) (sym c.if-candidates.true i);
  });
}

pub returns : goal.returns
returns c = record {
  reply = tells _ (candidates (candidates_data c.graph-2.result.now c.as_slice-list.result.now) false) c.text_of-2.result c.text_of-2.ensures (record {
    listing = c.in-Ok.candidates;
    listed = c.in-Ok.ensures.listed;
    told = λ i. candidates (candidates_data (c.graph-2.ensures i) (c.as_slice-list.ensures i)) (sym c.if-candidates.false i);
  });
}
