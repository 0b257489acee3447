use Rattle.std.proofs.Common.{rules}
use Rattle.nd_mesh.proofs.fifo.Queue.take_oldest.Goals as goal

pub returns-clause-value : goal.returns-clause-value
returns-clause-value g c = search rules

pub returns-clause-rest : goal.returns-clause-rest
returns-clause-rest g c = search rules
