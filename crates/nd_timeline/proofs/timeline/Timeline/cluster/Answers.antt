use Rattle.std.proofs.Common.{sym, subst}
use Rattle.nd_protocol.specs.Invariant.{KeepsProtocol}
use Rattle.nd_timeline.specs.Timeline.{TimelineValue}
use Rattle.nd_timeline.proofs.KeptSteps.{still_kept}
use Rattle.nd_timeline.proofs.timeline.Timeline.cluster.Goals as goal

pub returns-clause-protocol : goal.returns-clause-protocol
returns-clause-protocol g c =
    λ protocol. still_kept c.steps_keep_protocol.ensures.protocol c.self.inside.kept.base c.self.inside.walk.cluster c.self.inside.kept.steps.items c.self.inside.walk.at c.self.invariant.reached (subst (λ (m : TimelineValue g.row.A.Denot). KeepsProtocol m.base) (sym c.self.view_is) protocol)
