use Rattle.std.proofs.Common.{◌<◌, length}
use Rattle.nd_reach.proofs.Back.{LeadsTo}
use Rattle.nd_reach.proofs.way.way_to.Given as goal

abbrev pub invariant-loop-at : goal.invariant-loop-at
invariant-loop-at g l = record { within : l.at < length l.fn.nodes; leads : LeadsTo l.fn.nodes l.fn.k l.at l.steps }

abbrev pub decreases-loop-at : goal.decreases-loop-at
decreases-loop-at g l = l.at
