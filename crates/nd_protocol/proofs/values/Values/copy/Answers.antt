use Rattle.std.proofs.Common.{rules}
use Rattle.nd_protocol.proofs.values.Values.copy.Goals as goal

pub returns : goal.returns
returns g c = search rules
