use Rattle.nd_timeline.proofs.KeptSteps.{kept_at}
use Rattle.nd_timeline.proofs.walk.Kept.record.Goals as goal

pub returns : goal.returns
returns g c = rw c.index.ensures (kept_at (c.args.self.now).base (c.args.self.now).steps.items c.args.i c.index.result.now c.requires.there c.requires.planned)
