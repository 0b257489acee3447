use Rattle.std.proofs.Common.{sym, ap, subst, ◌∙◌, rules}
use Rattle.nd_delta.specs.Delta.{IsPartOf}
use Rattle.nd_protocol.specs.Steps.{chosen}
use Rattle.nd_steps.proofs.PartsSent.{chosen_there}
use Rattle.nd_steps.proofs.broadcast.planned_part.Goals as goal

pub left_alone-requires : goal.left_alone-requires
left_alone-requires g c =
    subst (λ m. IsPartOf m c.args.processor.now.unsent) (sym (c.in-Ok.ensures ∙ ap (chosen c.args.part.now) c.unsent-2.ensures))
    (chosen_there c.args.part.now c.args.processor.now.unsent)

pub returns-clause-there : goal.returns-clause-there
returns-clause-there g c =
    subst (λ m. IsPartOf m c.args.processor.now.unsent) (sym (c.in-Ok.ensures ∙ ap (chosen c.args.part.now) c.unsent-2.ensures))
    (chosen_there c.args.part.now c.args.processor.now.unsent)

pub returns-clause-upright : goal.returns-clause-upright
returns-clause-upright g c = search rules
