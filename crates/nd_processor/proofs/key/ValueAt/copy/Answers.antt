use Rattle.std.proofs.Common.{rules}
use Rattle.nd_processor.proofs.key.ValueAt.copy.Goals as goal

pub returns : goal.returns
returns c = search rules
