use Rattle.nd_view.proofs.View.leave.Goals as goal

pub returns-in-Ok-clause-paths : goal.returns-in-Ok-clause-paths
returns-in-Ok-clause-paths g c = c.stay.ensures.paths c.args.paths.now c.requires.paths
