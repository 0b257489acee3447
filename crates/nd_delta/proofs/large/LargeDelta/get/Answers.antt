use Rattle.nd_delta.proofs.KeptLemmas.{got_some, got_none}
use Rattle.nd_delta.proofs.large.LargeDelta.get.Goals as goal

pub returns-in-Some : goal.returns-in-Some
returns-in-Some g c =
    let both = got_some c.self.inside.map c.self.invariant c.args.self.now c.self.view_is c.args.point.now c.in-Some.n c.in-Some.ensures.value in
    record { value = both.0; within = both.1 }

pub returns-in-None-clause-value : goal.returns-in-None-clause-value
returns-in-None-clause-value g c = got_none c.self.inside.map c.self.invariant c.args.self.now c.self.view_is c.args.point.now c.in-None.ensures.value
