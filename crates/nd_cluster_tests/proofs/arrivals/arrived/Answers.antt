use Rattle.nd_cluster_tests.proofs.arrivals.arrived.Goals as goal

pub apply-requires : goal.apply-requires
apply-requires c = c.new-view.ensures.for_all c.args.paths.now
