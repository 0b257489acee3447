use Rattle.std.proofs.Common.{◌≡◌, ◌≤◌, length, take}
use Rattle.nd_time.specs.Limits.{max_literals}
use Rattle.nd_breaks.proofs.condition.Condition.copy.Given as goal

abbrev pub invariant-loop-literal : goal.invariant-loop-literal
invariant-loop-literal l = record {
  few : length l.literal-items ≤ max_literals;
  copied : l.literals.items ≡ take l.literal-index l.literal-items;
}
