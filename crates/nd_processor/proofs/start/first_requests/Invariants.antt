use Rattle.std.proofs.Common.{◌≡◌, ◌≤◌, length, drop}
use Rattle.std.specs.FinMap.{from_entries}
use Rattle.nd_processor.specs.Start.{first_requests}
use Rattle.nd_processor.proofs.start.first_requests.Given as goal

abbrev pub invariant-loop-l : goal.invariant-loop-l
invariant-loop-l g l = record {
  within : l.l ≤ length l.vertices;
  requests : from_entries l.requests ≡ first_requests l.l (drop l.l l.vertices);
}

abbrev pub decreases-loop-l : goal.decreases-loop-l
decreases-loop-l g l = l.l
