use Rattle.std.proofs.Common.{◌≡◌, ◌-◌, ◌≤◌, false, length, take}
use Rattle.std.specs.Io.KnownBytes.{Appends}
use Rattle.rewind_lines.proofs.sink.send.Given as goal

abbrev pub invariant-parts : goal.invariant-parts
invariant-parts g l = record {
  within : l.sent ≤ length l.bytes;
  appended : Appends (g.S.Sink.contents l.fn.sink) (g.S.Sink.contents l.sink) (take l.sent l.bytes);
  sound : g.S.Sink.failed l.sink ≡ false;
}

abbrev pub decreases-parts : goal.decreases-parts
decreases-parts g l = length l.bytes - l.sent
