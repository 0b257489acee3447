use Rattle.std.proofs.Common.{rules}
use Rattle.nd_mesh.proofs.fifo.Queue.drop_newest.Goals as goal

pub returns : goal.returns
returns g c = search rules
