use Rattle.std.proofs.Common.{◌≡◌}
use Rattle.nd_steps.specs.Alterations.{longer_rows}
use Rattle.nd_steps.proofs.effects.longer_list.Given as goal

-- the queues so far are listed
abbrev pub invariant-loop-to : goal.invariant-loop-to
invariant-loop-to g l = l.rows.items ≡ longer_rows l.mesh l.p l.to
