use Rattle.std.proofs.Common.{take}
use Rattle.nd_timeline.specs.Reached.{AreCopies}
use Rattle.nd_timeline.proofs.timeline.copied_steps.Given as goal

abbrev pub invariant-loop-record : goal.invariant-loop-record
invariant-loop-record g l = AreCopies (take l.record-index l.steps) l.list.items
