use Rattle.nd_cluster_tests.proofs.precursor_counts.taken.Goals as goal

pub loop-turn-init : goal.loop-turn-init
loop-turn-init c = c.new-view.ensures.for_all c.args.paths.now
