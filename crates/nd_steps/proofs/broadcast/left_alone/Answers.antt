use Rattle.std.proofs.Common.{◌≡◌, sym, ap, subst, ◌∙◌}
use Rattle.nd_delta.specs.Delta.{minus, size, IsPartOf}
use Rattle.nd_steps.proofs.PartsSent.{nothing_stays}
use Rattle.nd_steps.specs.Refusals.{supporting_points}
use Rattle.nd_steps.proofs.SupportLemmas.{leaves_upright, leaves_alone, nothing_alone}
use Rattle.nd_steps.proofs.broadcast.left_alone.Goals as goal

pub without-requires : goal.without-requires
without-requires g c = subst (IsPartOf c.args.change.now) (sym c.unsent-unsent.ensures) c.requires

pub returns-then-len-clause-upright : goal.returns-then-len-clause-upright
returns-then-len-clause-upright g c = λ _.
    let all : size c.unsent-unsent.result.now ≡ size c.args.processor.now.unsent = ap size c.unsent-unsent.ensures in
    let as_many : size c.args.change.now ≡ size c.args.processor.now.unsent = sym c.len.ensures ∙ c.if-len.true ∙ c.len-2.ensures ∙ all in
    nothing_alone c.args.paths.now c.args.processor.now c.args.change.now (nothing_stays c.args.processor.now.unsent c.args.change.now c.requires as_many)

pub returns-clause-upright : goal.returns-clause-upright
returns-clause-upright g c = λ nothing.
    leaves_upright c.args.paths.now c.args.processor.now c.args.change.now c.in-Ok.stays c.deref.result.now
    (c.in-Ok.ensures.ok ∙ ap (λ m. minus m c.args.change.now) c.unsent-unsent.ensures) (c.deref.ensures.value ∙ c.in_ok-held.ensures ∙ ap (λ g. supporting_points g c.args.processor.now) c.graph.ensures.value)
    (c.unsupported_by.ensures.upright.0 nothing)

pub returns-clause-least : goal.returns-clause-least
returns-clause-least g c =
    leaves_alone c.args.paths.now c.args.processor.now c.args.change.now c.in-Ok.stays c.deref.result.now
    (c.in-Ok.ensures.ok ∙ ap (λ m. minus m c.args.change.now) c.unsent-unsent.ensures) (c.deref.ensures.value ∙ c.in_ok-held.ensures ∙ ap (λ g. supporting_points g c.args.processor.now) c.graph.ensures.value)
    c.unsupported_by.result c.unsupported_by.ensures.least
