use Rattle.std.proofs.Common.{◌≡◌, ◌≤◌, length, drop}
use Rattle.std.specs.FinMap.{from_entries}
use Rattle.nd_processor.specs.Start.{first_tokens}
use Rattle.nd_processor.proofs.start.first_tokens.Given as goal

abbrev pub invariant-loop-l : goal.invariant-loop-l
invariant-loop-l g l = record {
  within : l.l ≤ length l.vertices;
  tokens : from_entries l.tokens ≡ first_tokens l.l (drop l.l l.vertices);
}

abbrev pub decreases-loop-l : goal.decreases-loop-l
decreases-loop-l g l = l.l
