use Rattle.std.proofs.Common.{rules}
use Rattle.nd_vertex.proofs.state.VertexState.on_notice.Goals as goal

pub returns-clause-ok : goal.returns-clause-ok
returns-clause-ok g c = search rules
