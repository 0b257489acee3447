use Rattle.std.proofs.Common.{take}
use Rattle.std.specs.Prelude.{All}
use Rattle.nd_at_rest.specs.Waiting.{IsWaiting}
use Rattle.nd_at_rest.proofs.rest.is_at_rest.Given as goal

abbrev pub invariant-loop-step : goal.invariant-loop-step
invariant-loop-step g l = All (IsWaiting {A = g.row.A.Denot} l.cluster) (take l.step-index l.step-items)
