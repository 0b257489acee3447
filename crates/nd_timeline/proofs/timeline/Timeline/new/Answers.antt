use Rattle.nd_timeline.proofs.CheckpointLemmas.{no_checkpoints}
use Rattle.nd_timeline.proofs.KeptSteps.{begun}
use Rattle.nd_timeline.proofs.timeline.Timeline.new.Goals as goal

pub invariant_of-result : goal.invariant_of-result
invariant_of-result g c = record {
  reached = begun c.args.cluster c.new-steps.result.items c.new-steps.ensures.items c.in_ok-base.base c.in_ok-base.ensures;
  checkpoints = no_checkpoints c.in_ok-base.base c.new-steps.result.items c.new-checkpoints.result.items c.new-checkpoints.ensures.items;
}
