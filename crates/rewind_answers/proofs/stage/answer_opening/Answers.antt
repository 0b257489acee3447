use Rattle.std.proofs.Common.{rules}
use Rattle.rewind_replies.specs.Replies.{version}
use Rattle.rewind_forms.specs.Versions.{number_of}
use Rattle.rewind_answers.proofs.stage.answer_opening.Goals as goal

pub returns : goal.returns
returns c = record {
  answers = rw (c.goes_on.ensures.0, c.goes_on.ensures.1) (version (number_of c.in-Some.version), (search rules), c.in_ok-text.ensures.reply);
  memory = tt;
}
