use Rattle.std.proofs.Common.{rules}
use Rattle.nd_map.proofs.SortedMap.entries.Goals as goal

pub returns-clause-value : goal.returns-clause-value
returns-clause-value g c = search rules
