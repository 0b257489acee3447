use Rattle.std.proofs.Common.{◌≡◌, take}
use Rattle.nd_summaries.specs.Row.{leaving}
use Rattle.nd_summaries.proofs.outgoing.those_leaving.Given as goal

abbrev pub invariant-loop-arc : goal.invariant-loop-arc
invariant-loop-arc g l = l.row.items ≡ leaving l.location (take l.arc-index l.arcs)
