use Rattle.rewind_sessions.specs.Runs.{lists_of}
use Rattle.rewind_sessions.specs.Served.{AreFresh}
use Rattle.rewind_sessions.proofs.drive.enter_all.Given as goal

abbrev pub invariant-loop-list : goal.invariant-loop-list
invariant-loop-list g l = record { fresh : AreFresh (lists_of l.yielded) l.tasks.items }
