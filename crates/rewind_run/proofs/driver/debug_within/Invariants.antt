use Rattle.std.proofs.Common.{◌≡◌, ℕ, ◌+◌, ◌≤◌, List, [], Some, false, length}
use Rattle.rewind_run.specs.States.{Going}
use Rattle.rewind_run.proofs.driver.debug_within.Given as goal

abbrev pub invariant-reads : goal.invariant-reads
invariant-reads g l = record {
  number : l.run.lines.number + l.left ≤ 1 + l.limit;
  replied : l.run.replied + l.left ≤ l.limit;
  chunk : length l.chunk ≡ 65537;
  going : (input before : List ℕ) → g.S.Source.remaining l.fn.source ≡ Some input → g.T.Sink.contents l.fn.sink ≡ Some before
      → Going l.options.processors l.limit l.left input before (g.S.Source.remaining l.source) (g.T.Sink.contents l.sink) l.run;
  none_waits : l.run.outbox ≡ [];
  given : g.S.Source.given l.source + l.left ≡ g.S.Source.given l.fn.source + l.limit;
  goes_on : g.S.Source.ended l.source ≡ false;
  unfailed : g.S.Source.failed l.source ≡ false;
  sound : g.T.Sink.failed l.sink ≡ false;
}

abbrev pub decreases-reads : goal.decreases-reads
decreases-reads g l = l.left
