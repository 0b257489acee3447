use Rattle.std.proofs.Common.{inl, refl}
use Rattle.rewind_answers.specs.Stages.{logged}
use Rattle.rewind_answers.proofs.TextLaws.{asked_do, asked_look, lost_do, unmade}
use Rattle.rewind_answers.proofs.answer.answer_asked.Goals as goal

pub returns-in-Do : goal.returns-in-Do
returns-in-Do g c = record {
  reply = asked_do (logged c.args.state.now) (logged c.answer_do.new.state) c.args.asked c.in-Do.command c.answer_do.result c.in-Do.is c.answer_do.ensures.reply;
  memory = lost_do (logged c.args.state.now) (logged c.answer_do.new.state) c.args.asked c.in-Do.command c.answer_do.result c.in-Do.is c.answer_do.ensures.memory;
}

pub returns-in-Look : goal.returns-in-Look
returns-in-Look g c = record {
  reply = asked_look (logged c.args.state.now) c.args.asked c.in-Look.query c.answer_query.result c.in-Look.is c.answer_query.ensures.reply;
  memory = unmade c.answer_query.result (inl refl);
}
