use Rattle.std.proofs.Common.{◌≡◌, length}
use Rattle.nd_timeline.specs.Checkpoints.{AreCheckpoints, IsLast}
use Rattle.nd_timeline.proofs.walk.Kept.cut.Given as goal

abbrev pub invariant-loop-last : goal.invariant-loop-last
invariant-loop-last g l = record {
  base : l.self.base ≡ l.fn.self.base;
  steps : l.self.steps ≡ l.initial.self.steps;
  all : AreCheckpoints l.fn.self.base l.fn.self.steps.items l.self.checkpoints.items;
  last : IsLast l.self.checkpoints.items l.last;
}

abbrev pub decreases-loop-last : goal.decreases-loop-last
decreases-loop-last g l = length l.self.checkpoints.items
