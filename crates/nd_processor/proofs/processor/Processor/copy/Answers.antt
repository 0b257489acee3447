use Rattle.std.proofs.Common.{rules}
use Rattle.nd_processor.proofs.processor.Processor.copy.Goals as goal

pub returns : goal.returns
returns g c = search rules
