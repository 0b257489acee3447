use Rattle.rewind_replies.specs.Replies.{graph}
use Rattle.rewind_answers.proofs.stage.answer_graph.Goals as goal

pub returns-in_ok-text-in-Started : goal.returns-in_ok-text-in-Started
returns-in_ok-text-in-Started c = record {
  answers = rw (c.goes_on.ensures.0, c.goes_on.ensures.1) (graph c.in-Started.field-0.reply.locations c.in-Started.field-0.reply.processors, rw c.in-Started.is at c.in_ok-error.ensures.replies, c.in_ok-text-in-Started.ensures);
  memory = tt;
}
