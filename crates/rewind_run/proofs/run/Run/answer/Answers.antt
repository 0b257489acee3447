use Rattle.rewind_answers.specs.Stages.{phase_after, phase_of}
use Rattle.rewind_lines.specs.Readings.{reading_view}
use Rattle.rewind_run.proofs.RunLaws.{gathers-none, gathers-one}
use Rattle.rewind_run.proofs.run.Run.answer.Goals as goal

pub returns-in-None-clause-answers : goal.returns-in-None-clause-answers
returns-in-None-clause-answers g c =
    let run = c.args.self.now in
    gathers-none (phase_of run.stage) (phase_after c.in_ok-answer.answer.is_last c.answer_line.new.stage) run.lines.number c.number-number.result (reading_view c.args.reading.now)
    c.in_ok-answer.answer.reply run.outbox c.in-None.is c.number-number.ensures c.in_ok-answer.ensures.answers

pub returns-in_ok-add_text-in-Some-clause-answers : goal.returns-in_ok-add_text-in-Some-clause-answers
returns-in_ok-add_text-in-Some-clause-answers g c =
    let run = c.args.self.now in
    gathers-one (phase_of run.stage) (phase_after c.in_ok-answer.answer.is_last c.answer_line.new.stage) run.lines.number c.number-number.result (reading_view c.args.reading.now)
    c.in_ok-answer.answer.reply c.in-Some.text run.outbox _ c.in-Some.is c.number-number.ensures c.in_ok-answer.ensures.answers c.in_ok-add_text-in-Some.ensures.ok
