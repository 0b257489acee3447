use Rattle.std.proofs.Common.{ap}
use Rattle.nd_machine.specs.Moves.{MachineValue}
use Rattle.nd_machine.proofs.machine.Machine.into_parts.Goals as goal

pub returns-clause-breaks : goal.returns-clause-breaks
returns-clause-breaks g c = ap (λ (m : MachineValue g.row.A.Denot). m.breaks) c.self.view_is
