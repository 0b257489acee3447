use Rattle.nd_delta.proofs.KeptLemmas.{taken_kept, taken_is}
use Rattle.nd_delta.proofs.large.LargeDelta.remove.Goals as goal

pub invariant_of-self : goal.invariant_of-self
invariant_of-self g c = taken_kept c.self.inside.map c.self.invariant c.args.self.now c.self.view_is c.args.point.now _ c.remove.ensures.value

pub returns : goal.returns
returns g c = taken_is c.self.inside.map c.self.invariant c.args.self.now c.self.view_is c.args.point.now _ c.remove.ensures.value
