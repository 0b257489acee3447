use Rattle.std.proofs.Common.{ℕ, [], refl, inl}
use Rattle.rewind_lines.specs.Lines.{blank}
use Rattle.rewind_answers.specs.Answers.{Answers}
use Rattle.rewind_answers.specs.Stages.{phase_of}
use Rattle.rewind_answers.specs.declared.stage.Stage.{Stage}
use Rattle.rewind_answers.specs.declared.stage.Stage.TheVariants.{Unopened, Unstarted, Running}
use Rattle.rewind_answers.proofs.TextLaws.{bad_line, long_line, unmade}
use Rattle.rewind_answers.proofs.stage.answer_line.Goals as goal

-- a blank line has no reply, and changes nothing
skipped : (s : Stage) (line : ℕ) → Answers (phase_of s) line blank [] (phase_of s)
skipped (Unopened processors) line = (refl, refl)
skipped (Unstarted v processors) line = (refl, refl)
skipped (Running script) line = (refl, refl)

pub returns-in-Blank : goal.returns-in-Blank
returns-in-Blank g c = record {
  answers = (
      rw c.in-Blank.is (skipped c.args.stage.now c.args.line)
      );
  memory = tt;
}

pub returns-in-TooLong : goal.returns-in-TooLong
returns-in-TooLong g c = record {
  answers = rw c.in-TooLong.is (long_line c.args.stage.now c.args.line c.answer_fault.result c.answer_fault.ensures.reply c.answer_fault.ensures.after);
  memory = unmade c.answer_fault.result (inl refl);
}

pub returns-in-NoJson : goal.returns-in-NoJson
returns-in-NoJson g c = record {
  answers = rw c.in-NoJson.is (bad_line c.args.stage.now c.args.line c.answer_fault-in-NoJson.result c.answer_fault-in-NoJson.ensures.reply c.answer_fault-in-NoJson.ensures.after);
  memory = unmade c.answer_fault-in-NoJson.result (inl refl);
}
