use Rattle.std.proofs.Common.{rules}
use Rattle.nd_map.proofs.tree.TreeMap.iter.Goals as goal

pub returns-clause-rest : goal.returns-clause-rest
returns-clause-rest g c = search rules
