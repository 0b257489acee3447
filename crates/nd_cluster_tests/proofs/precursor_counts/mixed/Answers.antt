use Rattle.nd_cluster_tests.proofs.precursor_counts.mixed.Goals as goal

pub loop-turn-init : goal.loop-turn-init
loop-turn-init c = c.new-view.ensures.for_all c.args.paths.now
