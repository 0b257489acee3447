use Rattle.std.proofs.Common.{◌≡◌, All, map}
use Rattle.rewind_sessions.specs.Runs.{MayEnd}
use Rattle.rewind_sessions.proofs.drive.split.Given as goal

abbrev pub invariant-loop-one : goal.invariant-loop-one
invariant-loop-one l = record {
  clients : l.clients.items ≡ map (λ d. d.client) l.yielded;
  faults : l.faults.items ≡ map (λ d. d.fault) l.yielded;
  ended : All MayEnd l.faults.items;
}
