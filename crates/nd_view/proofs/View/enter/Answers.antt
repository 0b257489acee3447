use Rattle.nd_view.proofs.View.enter.Goals as goal

pub returns-else-n-gt0-clause-paths : goal.returns-else-n-gt0-clause-paths
returns-else-n-gt0-clause-paths g c = c.stay.ensures.paths c.args.paths.now c.requires.paths
