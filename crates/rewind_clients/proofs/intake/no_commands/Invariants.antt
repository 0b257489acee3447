use Rattle.std.proofs.Common.{◌≡◌, [], replicate}
use Rattle.rewind_sessions.specs.Runs.{lists_of}
use Rattle.rewind_clients.proofs.intake.no_commands.Given as goal

abbrev pub invariant-loop : goal.invariant-loop
invariant-loop l = record { made : lists_of l.commands.items ≡ replicate l.counter [] }
