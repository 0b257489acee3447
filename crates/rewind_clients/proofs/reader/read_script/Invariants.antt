use Rattle.std.proofs.Common.{◌≡◌, ℕ, ◌+◌, ◌≤◌, List, Some, false, length}
use Rattle.rewind_clients.specs.Readers.{Going}
use Rattle.rewind_clients.proofs.reader.read_script.Given as goal

abbrev pub invariant-reads : goal.invariant-reads
invariant-reads g l = record {
  number : l.reader.lines.number + l.left ≤ 1 + l.limit;
  chunk : length l.chunk ≡ 65537;
  going : (input : List ℕ) → g.S.Source.remaining l.fn.source ≡ Some input → Going l.options l.limit l.left input (g.S.Source.remaining l.source) l.reader;
  given : g.S.Source.given l.source + l.left ≡ g.S.Source.given l.fn.source + l.limit;
  goes_on : g.S.Source.ended l.source ≡ false;
  unfailed : g.S.Source.failed l.source ≡ false;
}

abbrev pub decreases-reads : goal.decreases-reads
decreases-reads g l = l.left
