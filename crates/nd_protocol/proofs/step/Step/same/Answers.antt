use Rattle.std.proofs.Common.{rules}
use Rattle.nd_protocol.proofs.step.Step.same.Goals as goal

pub returns-then-eq : goal.returns-then-eq
returns-then-eq g c = search rules
