use Rattle.std.proofs.Common.{rules}
use Rattle.nd_mesh.proofs.fifo.Queue.put_front.Goals as goal

pub returns-clause-ok : goal.returns-clause-ok
returns-clause-ok g c = search rules
