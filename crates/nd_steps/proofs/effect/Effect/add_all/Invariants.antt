use Rattle.std.proofs.Common.{◌≡◌, drop}
use Rattle.nd_steps.specs.Effect.{lists_of}
use Rattle.nd_steps.specs.Alterations.{beside, altered_by}
use Rattle.nd_steps.proofs.effect.Effect.add_all.Given as goal

-- what was added so far, with the effects of the changes that are left, is the result
abbrev pub invariant-loop-change : goal.invariant-loop-change
invariant-loop-change g l = beside (lists_of l.self) (altered_by l.processors (drop l.change-index l.changes)) ≡ beside (lists_of l.initial.self) (altered_by l.processors l.changes)
