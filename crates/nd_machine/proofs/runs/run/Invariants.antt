use Rattle.std.specs.Prelude.{option_copied}
use Rattle.std.proofs.Common.{◌≡◌, ◌+◌}
use Rattle.nd_machine.specs.Moves.{HasRun}
use Rattle.nd_machine.proofs.runs.run.Given as goal

abbrev pub invariant-loop-ran : goal.invariant-loop-ran
invariant-loop-ran g l = record { ran : HasRun (option_copied l.only) l.seed l.breaks l.ran l.fn.timeline l.timeline; cursor : l.timeline.cursor ≡ l.fn.timeline.cursor + l.ran }
