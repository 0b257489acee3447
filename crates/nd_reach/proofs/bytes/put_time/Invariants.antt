use Rattle.std.proofs.Common.{◌≡◌, drop}
use Rattle.nd_reach.specs.Bytes.{number}
use Rattle.nd_reach.proofs.Written.{to_come}
use Rattle.nd_reach.proofs.bytes.put_time.Given as goal

abbrev pub invariant-loop-counter : goal.invariant-loop-counter
invariant-loop-counter g l = to_come number l.bytes.items (drop l.counter-index l.counters) ≡ to_come number l.initial.bytes.items l.counters
