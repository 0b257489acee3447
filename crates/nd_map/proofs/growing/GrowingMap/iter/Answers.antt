use Rattle.std.specs.Map.Iter.{deref_pair}
use Rattle.nd_map.proofs.Runs.{in_order}
use Rattle.nd_map.proofs.growing.GrowingMap.iter.Goals as goal

pub returns-clause-runs : goal.returns-clause-runs
returns-clause-runs g c = in_order deref_pair
