use Rattle.std.proofs.Common.{◌≡◌, ◌≤◌, take}
use Rattle.std.specs.Prelude.{All}
use Rattle.nd_time.specs.Limits.{max_counter}
use Rattle.nd_summaries.proofs.summary.Constants.narrowed.Given as goal

-- the numbers so far, none of which exceeds the limit
abbrev pub invariant-loop-number : goal.invariant-loop-number
invariant-loop-number l = record {
  items : l.numbers.items ≡ take l.number-index l.wide;
  small : All (λ x. x ≤ max_counter) (take l.number-index l.wide);
}
