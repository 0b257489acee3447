use Rattle.std.proofs.Common.{arith}
use Rattle.std.proofs.lemmas.Grind.{common_steps}
use Rattle.nd_processor.proofs.processor.Processor.vertex_state.Goals as goal

pub returns : goal.returns
returns g c = grind (arith, common_steps)
