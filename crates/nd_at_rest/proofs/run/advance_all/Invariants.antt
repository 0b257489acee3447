use Rattle.std.proofs.Common.{◌≡◌}
use Rattle.nd_protocol.specs.Invariant.{KeepsProtocol}
use Rattle.nd_at_rest.specs.Going.{HasGone}
use Rattle.nd_at_rest.proofs.run.advance_all.Given as goal

abbrev pub invariant-loop-ran : goal.invariant-loop-ran
invariant-loop-ran g l = HasGone g.row.A.Denot l.fn.cluster l.turn l.ran l.cluster l.ran × (KeepsProtocol l.fn.cluster → KeepsProtocol l.cluster)
