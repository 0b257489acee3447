use Rattle.nd_summaries.specs.Row.{Rounds}
use Rattle.nd_summaries.proofs.row.fill.Given as goal

abbrev pub invariant-rounds : goal.invariant-rounds
invariant-rounds g l = Rounds l.order l.graph l.from l.row l.last.items l._round
