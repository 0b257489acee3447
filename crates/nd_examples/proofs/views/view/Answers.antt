use Rattle.nd_examples.proofs.views.view.Goals as goal

pub apply-requires : goal.apply-requires
apply-requires g c = c.new-view.ensures.for_all c.args.paths.now
