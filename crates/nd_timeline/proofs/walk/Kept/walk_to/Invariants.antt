use Rattle.std.proofs.Common.{◌≡◌, ◌-◌}
use Rattle.nd_timeline.specs.Reached.{IsReached}
use Rattle.nd_timeline.proofs.walk.Kept.walk_to.Given as goal

abbrev pub invariant-loop-at : goal.invariant-loop-at
invariant-loop-at g l = record { on : IsReached l.self.base l.walk.cluster l.self.steps.items l.walk.at; here : l.walk.at ≡ l.at; from : l.from ≡ l.fn.walk.at }

abbrev pub invariant-loop-undone : goal.invariant-loop-undone
invariant-loop-undone g l = record { on : IsReached l.self.base l.walk.cluster l.self.steps.items l.walk.at; here : l.walk.at ≡ l.from - l.undone; from : l.from ≡ l.fn.walk.at }
