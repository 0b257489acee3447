use Rattle.nd_steps.proofs.Freedom.{enabled}
use Rattle.nd_steps.proofs.laws.free_steps_are_enabled.Goals as goal

pub returns : goal.returns
returns g c = enabled c.args.paths.now c.order_is_decided.ensures
