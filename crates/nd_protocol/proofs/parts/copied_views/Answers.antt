use Rattle.std.proofs.Common.{[], ◌∷◌, ◌++◌, sym, ◌∙◌}
use Rattle.std.proofs.lemmas.List.{take_all, take_more}
use Rattle.nd_protocol.proofs.parts.copied_views.Goals as goal

pub loop-view-preserved : goal.loop-view-preserved
loop-view-preserved g c =
    c.in_ok-push.ensures.items
    ∙ (λ i. c.loop-view.invariant i ++ (c.in_ok-copy.ensures ∙ c.view-item.is) i ∷ [])
    ∙ sym (take_more c.args.views.now c.loop-view.view-index c.view-item.result c.loop-view-test.true)

pub returns : goal.returns
returns g c = c.loop-view.invariant ∙ take_all c.loop-view.view-index c.args.views.now c.loop-view-test.false
