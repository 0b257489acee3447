use Rattle.std.proofs.Common.{refl}
use Rattle.std.proofs.lemmas.Iterator.Consumers.{YieldsList-from_rest, count_from_yields_List}
use Rattle.std.specs.Map.Iter.{deref_pair}
use Rattle.nd_reach.proofs.entries.count_of.Goals as goal

pub returns : goal.returns
returns g c = count_from_yields_List c.args.entries c.count.result c.count.ensures.ran (YieldsList-from_rest {shows = deref_pair} c.args.entries refl)
