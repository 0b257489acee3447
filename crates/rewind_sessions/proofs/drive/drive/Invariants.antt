use Rattle.std.proofs.Common.{◌≡◌, ◌++◌}
use Rattle.rewind_sessions.specs.Served.{asked}
use Rattle.rewind_sessions.proofs.drive.drive.Given as goal

abbrev pub invariant-loop-command : goal.invariant-loop-command
invariant-loop-command g l = record {
  number : l.client.number ≡ l.fn.client.number;
  made : asked l.client.receipts ≡ asked l.fn.client.receipts ++ l.yielded;
}
