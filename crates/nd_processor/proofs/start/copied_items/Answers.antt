use Rattle.std.proofs.Common.{[], ◌∷◌, ◌++◌, sym, ◌∙◌}
use Rattle.std.proofs.lemmas.List.{take_all, take_more}
use Rattle.nd_processor.proofs.start.copied_items.Goals as goal

pub loop-state-preserved : goal.loop-state-preserved
loop-state-preserved g c =
    c.in_ok-push.ensures.items
    ∙ (λ i. c.loop-state.invariant i ++ (c.in_ok-copy.ensures ∙ c.state-item.is) i ∷ [])
    ∙ sym (take_more c.args.items.now c.loop-state.state-index c.state-item.result c.loop-state-test.true)

pub returns : goal.returns
returns g c = c.loop-state.invariant ∙ take_all c.loop-state.state-index c.args.items.now c.loop-state-test.false
