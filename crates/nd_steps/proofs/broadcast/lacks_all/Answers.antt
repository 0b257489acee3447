use Rattle.std.proofs.Common.{refl, sym, ap, ◌∙◌, below_more, of_z, w64}
use Rattle.std.proofs.lemmas.List.{get_or_default}
use Rattle.nd_delta.specs.Delta.{at}
use Rattle.nd_steps.proofs.CountsReceived.{kept_zero}
use Rattle.nd_steps.proofs.PartsSent.{entry_in_part, part_is_none}
use Rattle.nd_steps.proofs.broadcast.lacks_all.Goals as goal

pub loop-point-preserved : goal.loop-point-preserved
loop-point-preserved g c =
    let x = c.point-item.result in
    below_more _ _ c.loop-point.invariant (λ d.
    ap (at c.args.change.now) (sym (c.point-item.is ∙ get_or_default c.args.points.now c.loop-point.point-index x d c.loop-point-test.true))
    ∙ sym c.get.ensures.value ∙ kept_zero c.get.result c.get.ensures.within c.if-get-ne0.false)

pub returns-then-get-ne0 : goal.returns-then-get-ne0
returns-then-get-ne0 g c = (
  λ e. absurd (cc),
  λ e. absurd (entry_in_part c.args.change.now c.args.points.now c.loop-point.point-index c.point-item.result c.loop-point-test.true c.point-item.is (λ z. c.if-get-ne0.true (ap (of_z w64) (c.get.ensures.value ∙ z))) e),
)

pub returns : goal.returns
returns g c = (λ _. part_is_none c.args.change.now c.args.points.now c.loop-point.point-index c.loop-point-test.false c.loop-point.invariant, λ _. refl)
