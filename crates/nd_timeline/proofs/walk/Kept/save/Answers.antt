use Rattle.std.proofs.Common.{ℕ, rules}
use Rattle.nd_timeline.specs.Checkpoints.{IsCheckpoint, IsDue}
use Rattle.nd_timeline.specs.declared.checkpoint.Checkpoint.{Checkpoint}
use Rattle.nd_timeline.proofs.CheckpointLemmas.{are_more, is_checkpoint, is_due}
use Rattle.nd_timeline.proofs.walk.Kept.save.Goals as goal

pub returns-clause-checkpoints : goal.returns-clause-checkpoints
returns-clause-checkpoints g c =
    let k = c.args.self.now in
    let last : ℕ = c.last_checkpoint-last.result in
    let since : ℕ = c.saturating_sub-since.result in
    let one : Checkpoint g.row.A.Denot = record { at = (c.args.walk.now).at; saved = c.in-Ok-saved.saved } in
    let is : IsCheckpoint k.base k.steps.items one = is_checkpoint k.base (c.args.walk.now).cluster k.steps.items one c.requires.on c.in-Ok-saved.ensures in
    let due : IsDue k.base last one = is_due k.base (c.args.walk.now).cluster k.steps.items one last since c.requires.on c.in-Ok-saved.ensures c.saturating_sub-since.ensures (search rules) (search rules) in
    rw (c.push_reserved.ensures.items, c.reserve.ensures.items) (are_more k.base k.steps.items k.checkpoints.items one last c.requires.checkpoints is c.last_checkpoint-last.ensures due)
