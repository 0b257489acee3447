use Rattle.std.proofs.Common.{sym, ◌∙◌, arith}
use Rattle.nd_timeline.specs.declared.walk.Walk.{Walk}
use Rattle.nd_timeline.proofs.CheckpointLemmas.{is_among}
use Rattle.nd_timeline.proofs.KeptSteps.{at_start, begins_on}
use Rattle.nd_timeline.proofs.timeline.Timeline.walk_near.Goals as goal

pub returns-in_ok-copy-in-Base-clause-on : goal.returns-in_ok-copy-in-Base-clause-on
returns-in_ok-copy-in-Base-clause-on g c = record { within = omega arith; cluster = c.in_ok-copy-in-Base.ensures ∙ (c.base.ensures ∙ sym (at_start c.args.self.now)) }

pub returns-in_ok-restored-in-Checkpoint-clause-on : goal.returns-in_ok-restored-in-Checkpoint-clause-on
returns-in_ok-restored-in-Checkpoint-clause-on g c =
    let k = c.self.inside.kept in
    let w : Walk g.row.A.Denot = record { at = (c.in-Checkpoint.checkpoint.now).at; cluster = c.in_ok-restored-in-Checkpoint.field-0 } in
    let within = (is_among k.base k.steps.items k.checkpoints.items c.in-Checkpoint.checkpoint.now c.self.invariant.checkpoints c.in-Checkpoint.ensures.among).within in
    begins_on k c.self.inside.walk.at c.args.self.now w c.self.view_is within c.in_ok-restored-in-Checkpoint.ensures
