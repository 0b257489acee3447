use Rattle.std.proofs.Common.{rules}
use Rattle.nd_vertex.proofs.state.VertexState.copy.Goals as goal

pub returns : goal.returns
returns g c = search rules
