use Rattle.std.proofs.Common.{ap, subst}
use Rattle.nd_timeline.specs.Timeline.{TimelineValue, IsTimeline}
use Rattle.nd_timeline.proofs.KeptSteps.{is_timeline}
use Rattle.nd_timeline.proofs.timeline.Timeline.at.Goals as goal

pub returns-clause-timeline : goal.returns-clause-timeline
returns-clause-timeline g c = subst IsTimeline c.self.view_is (is_timeline c.self.inside.kept.base c.self.inside.walk.cluster c.self.inside.kept.steps.items c.self.inside.walk.at c.self.invariant.reached)

pub returns-clause-value : goal.returns-clause-value
returns-clause-value g c = ap (λ (m : TimelineValue g.row.A.Denot). m.cursor) c.self.view_is
