use Rattle.std.proofs.Common.{rules}
use Rattle.nd_vertex.proofs.fault.VertexFaultFromCounterFull.from.Goals as goal

pub returns : goal.returns
returns c = search rules
