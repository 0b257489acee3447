use Rattle.std.specs.Prelude.{option_copied}
use Rattle.std.proofs.Common.{ap, subst, ◌∙◌, arith}
use Rattle.nd_breaks.specs.Breaks.{NoHit}
use Rattle.nd_timeline.specs.Timeline.{TimelineValue}
use Rattle.nd_machine.specs.Moves.{Goes}
use Rattle.nd_machine.proofs.RunLemmas.{not_run, run_on, next_cursor}
use Rattle.nd_machine.proofs.runs.run.Goals as goal

pub loop-ran-init : goal.loop-ran-init
loop-ran-init g c = record { ran = not_run (option_copied c.args.only) c.args.seed c.args.breaks.now c.args.timeline.now; cursor = omega arith }

pub loop-ran-preserved : goal.loop-ran-preserved
loop-ran-preserved g c =
    let chosen = rw c.in-Some.is at c.in-Ok.ensures.chosen in
    let made = c.in-Ok-commit.ensures.ok in
    let went : Goes (option_copied c.args.only) c.args.seed c.loop-ran.timeline c.in-Some.record.step c.commit.new.self = record { chosen = chosen; made = made } in
    record {
      ran = run_on (option_copied c.args.only) c.args.seed c.args.breaks.now c.loop-ran.ran c.args.timeline.now c.loop-ran.timeline c.commit.new.self c.in-Some.record.step c.loop-ran.invariant.ran went (subst (NoHit c.args.breaks.now) c.cluster.ensures.value (c.first_hit.ensures.none c.in_default-first_hit.is));
      cursor = ap (λ (m : TimelineValue g.row.A.Denot). m.cursor) made ∙ next_cursor c.loop-ran.timeline.cursor c.args.timeline.now.cursor c.loop-ran.ran c.loop-ran.invariant.cursor;
    }
