use Rattle.std.proofs.Common.{subst}
use Rattle.nd_timeline.specs.Timeline.{TimelineValue, moved_to}
use Rattle.nd_timeline.specs.Moves.{moved_reply, JumpMoves}
use Rattle.nd_timeline.proofs.KeptSteps.{walk_reached, walk_is_on}
use Rattle.nd_timeline.proofs.timeline.Timeline.walk_to.Goals as goal

pub walk_to-requires : goal.walk_to-requires
walk_to-requires g c = walk_reached c.self.inside.kept c.self.inside.walk.cluster c.self.inside.walk.at c.args.self.now c.args.walk.now c.self.invariant.reached c.self.view_is c.requires

pub returns-clause-on : goal.returns-clause-on
returns-clause-on g c = walk_is_on c.self.inside.kept c.self.inside.walk.at c.args.self.now c.walk_to.new.walk c.self.view_is c.walk_to.ensures.on

pub returns-clause-jump : goal.returns-clause-jump
returns-clause-jump g c =
    let P : TimelineValue g.row.A.Denot → Type 0 =
    λ m. JumpMoves (moved_to m (c.args.walk.now).at) c.args.n (moved_reply c.walk_to.result (moved_to m c.walk_to.new.walk.at)) (moved_to m c.walk_to.new.walk.at) in
    subst P c.self.view_is c.walk_to.ensures.jump
