use Rattle.rewind_answers.proofs.AnswerLaws.{graph_of-refused, graph_of-draft}
use Rattle.rewind_answers.proofs.answer.graph_of.Goals as goal

pub returns-in-Err : goal.returns-in-Err
returns-in-Err c = graph_of-refused c.args.version _ c.in-Err.fault c.in-Err.ensures

pub returns : goal.returns
returns c = rw (graph_of-draft c.args.version _ c.in-Ok.draft c.in-Ok.ensures) c.judged.ensures
