use Rattle.std.proofs.Common.{arith}
use Rattle.std.proofs.lemmas.Grind.{common_steps}
use Rattle.nd_mesh.proofs.outbox.Outbox.has_vacant.Goals as goal

pub loop-queue-preserved : goal.loop-queue-preserved
loop-queue-preserved g c = grind (arith, common_steps)
