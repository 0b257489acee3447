use Rattle.std.proofs.Common.{rules}
use Rattle.nd_vertex.proofs.state.VertexState.revert.Goals as goal

pub make_all-requires : goal.make_all-requires
make_all-requires g c = search rules

pub returns-clause-ok : goal.returns-clause-ok
returns-clause-ok g c = search rules
