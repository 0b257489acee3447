use Rattle.std.proofs.Common.{ℕ, ◌+◌, ◌-◌, ◌<◌, ◌≤◌, List, ◌++◌, length, take}
use Rattle.rewind_run.specs.States.{Stands}
use Rattle.rewind_run.proofs.run.Run.gather.Given as goal

abbrev pub invariant-lines : goal.invariant-lines
invariant-lines g l = record {
  within : l.from ≤ length l.bytes;
  stands : (n : ℕ) (done sent : List ℕ) → Stands n done sent l.fn.self → Stands n (done ++ take l.from l.bytes) sent l.self;
  number : l.self.lines.number ≤ l.fn.self.lines.number + l.from;
  replied : l.self.replied ≤ l.fn.self.replied + l.from;
  few : length l.self.outbox < 65536;
}

abbrev pub decreases-lines : goal.decreases-lines
decreases-lines g l = length l.bytes - l.from
