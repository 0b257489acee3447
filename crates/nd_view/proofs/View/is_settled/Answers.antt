use Rattle.nd_view.specs.Settled.{same_views}
use Rattle.nd_view.proofs.View.is_settled.Goals as goal

pub returns : goal.returns
returns g c = λ d v for here e. same_views d v c.args.self.now for here e
