use Rattle.nd_cluster_tests.proofs.limits.unseen.Goals as goal

pub returns : goal.returns
returns g c = c.new.ensures.for_all c.args.paths.now
