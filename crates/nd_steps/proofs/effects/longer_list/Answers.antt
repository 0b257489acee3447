use Rattle.std.proofs.Common.{[], ◌∷◌, ◌++◌, sym, ◌∙◌}
use Rattle.nd_steps.specs.Alterations.{longer_row}
use Rattle.nd_steps.proofs.EffectLemmas.{joined_more}
use Rattle.nd_steps.proofs.effects.longer_list.Goals as goal

pub loop-to-preserved : goal.loop-to-preserved
loop-to-preserved g c =
    c.in_ok-push.ensures.items
    ∙ (λ i. c.loop-to.invariant i ++ c.longer.ensures i ∷ [])
    ∙ sym (joined_more c.loop-to.to (λ to. longer_row c.args.mesh.now c.args.p to ∷ []))
