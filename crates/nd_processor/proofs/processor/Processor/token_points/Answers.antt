use Rattle.std.proofs.Common.{rules}
use Rattle.nd_processor.proofs.processor.Processor.token_points.Goals as goal

pub returns : goal.returns
returns g c = search rules
