use Rattle.std.proofs.Common.{ap}
use Rattle.nd_timeline.specs.Timeline.{TimelineValue}
use Rattle.nd_timeline.proofs.timeline.Timeline.base.Goals as goal

pub returns : goal.returns
returns g c = ap (λ (m : TimelineValue g.row.A.Denot). m.base) c.self.view_is
