use Rattle.std.proofs.Common.{[], ◌∷◌, ◌++◌, sym, ◌∙◌}
use Rattle.std.proofs.lemmas.List.{take_all, take_more}
use Rattle.nd_protocol.proofs.parts.copied_processors.Goals as goal

pub loop-processor-preserved : goal.loop-processor-preserved
loop-processor-preserved g c =
    c.in_ok-push.ensures.items
    ∙ (λ i. c.loop-processor.invariant i ++ (c.in_ok-copy.ensures ∙ c.processor-item.is) i ∷ [])
    ∙ sym (take_more c.args.processors.now c.loop-processor.processor-index c.processor-item.result c.loop-processor-test.true)

pub returns : goal.returns
returns g c = c.loop-processor.invariant ∙ take_all c.loop-processor.processor-index c.args.processors.now c.loop-processor-test.false
