use Rattle.nd_timeline.proofs.CheckpointLemmas.{are_after_push}
use Rattle.nd_timeline.proofs.walk.Kept.keep.Goals as goal

pub returns-clause-checkpoints : goal.returns-clause-checkpoints
returns-clause-checkpoints g c =
    rw c.push_reserved.ensures.items (are_after_push c.cut.new.self.base c.cut.new.self.steps.items c.args.planned c.cut.new.self.checkpoints.items c.cut.ensures.checkpoints)
