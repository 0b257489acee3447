use Rattle.std.proofs.Common.{subst}
use Rattle.nd_timeline.specs.Timeline.{TimelineValue}
use Rattle.nd_timeline.specs.Moves.{moved_reply, JumpMoves}
use Rattle.nd_timeline.specs.Walks.{timeline_at}
use Rattle.nd_timeline.proofs.KeptSteps.{walk_reached, landed_moves}
use Rattle.nd_timeline.proofs.timeline.Timeline.jump.Goals as goal

pub invariant_of-self : goal.invariant_of-self
invariant_of-self g c = record {
  reached = walk_reached c.self.inside.kept c.self.inside.walk.cluster c.self.inside.walk.at c.args.self.now c.in-Some.walk c.self.invariant.reached c.self.view_is c.in-Some.ensures.on;
  checkpoints = c.self.invariant.checkpoints;
}

pub returns-in-Some : goal.returns-in-Some
returns-in-Some g c = landed_moves c.self.inside.kept c.self.inside.walk.at c.args.n c.args.self.now c.in-Some.walk c.self.view_is c.in-Some.ensures.on c.in-Some.ensures.there

pub returns : goal.returns
returns g c =
    let new : TimelineValue g.row.A.Denot = timeline_at c.self.inside.kept c.walk_to.new.walk.at in
    subst (λ (m : TimelineValue g.row.A.Denot). JumpMoves m c.args.n (moved_reply c.walk_to.result new) new) c.self.view_is c.walk_to.ensures.jump
