use Rattle.nd_view.specs.Kept.{IsFor}
use Rattle.nd_cluster_tests.proofs.precursor_counts.mixed.Given as goal

abbrev pub invariant-loop-turn : goal.invariant-loop-turn
invariant-loop-turn l = IsFor l.paths l.view
