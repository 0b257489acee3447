use Rattle.nd_history.specs.Works.{NoneBefore}
use Rattle.nd_history.proofs.table.first.Given as goal

abbrev pub invariant-loop-j : goal.invariant-loop-j
invariant-loop-j l = NoneBefore l.results l.j
