use Rattle.nd_summaries.proofs.Leaving.{LeavingFirst}
use Rattle.nd_summaries.proofs.outgoing.all_leaving.Given as goal

-- the rows of the locations so far
abbrev pub invariant-loop-location : goal.invariant-loop-location
invariant-loop-location g l = LeavingFirst l.arcs l.rows.items l.location
