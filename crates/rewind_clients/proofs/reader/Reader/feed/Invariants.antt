use Rattle.std.proofs.Common.{ℕ, ◌+◌, ◌-◌, ◌≤◌, List, ◌++◌, length, take}
use Rattle.rewind_options.specs.declared.options.Options.{Options}
use Rattle.rewind_clients.specs.Readers.{StandsAt}
use Rattle.rewind_clients.proofs.reader.Reader.feed.Given as goal

abbrev pub invariant-lines : goal.invariant-lines
invariant-lines l = record {
  within : l.from ≤ length l.bytes;
  stands : (o : Options) (done : List ℕ) → StandsAt o done l.fn.self → StandsAt o (done ++ take l.from l.bytes) l.self;
  number : l.self.lines.number ≤ l.fn.self.lines.number + l.from;
}

abbrev pub decreases-lines : goal.decreases-lines
decreases-lines l = length l.bytes - l.from
