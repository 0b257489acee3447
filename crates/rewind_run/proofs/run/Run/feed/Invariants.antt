use Rattle.std.proofs.Common.{◌≡◌, ℕ, ◌+◌, ◌-◌, ◌≤◌, List, [], ◌++◌, false, length, take}
use Rattle.rewind_run.specs.States.{Answered}
use Rattle.rewind_run.proofs.run.Run.feed.Given as goal

abbrev pub invariant-parts : goal.invariant-parts
invariant-parts g l = record {
  within : l.from ≤ length l.bytes;
  answered : (n : ℕ) (done before : List ℕ) → Answered n done before (g.T.Sink.contents l.fn.sink) l.fn.self
      → Answered n (done ++ take l.from l.bytes) before (g.T.Sink.contents l.sink) l.self;
  none_waits : l.self.outbox ≡ [];
  number : l.self.lines.number ≤ l.fn.self.lines.number + l.from;
  replied : l.self.replied ≤ l.fn.self.replied + l.from;
  sound : g.T.Sink.failed l.sink ≡ false;
}

abbrev pub decreases-parts : goal.decreases-parts
decreases-parts g l = length l.bytes - l.from
