use Rattle.std.proofs.Common.{rules}
use Rattle.nd_map.proofs.SortedMap.copy.Goals as goal

pub returns-clause-equal : goal.returns-clause-equal
returns-clause-equal g c = search rules
