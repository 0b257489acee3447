use Rattle.std.proofs.Common.{[], ◌∷◌, ◌++◌, take, sym, ◌∙◌}
use Rattle.std.proofs.lemmas.List.{take_all, take_more}
use Rattle.nd_map.proofs.copy_entries.Goals as goal

pub loop-entry-preserved : goal.loop-entry-preserved
loop-entry-preserved g c =
    c.in_ok-push.ensures.items
    ∙ (λ i. c.loop-entry.invariant i ++ (c.duplicate.ensures i, c.entry-item.result.1) ∷ [])
    ∙ (λ i. take c.loop-entry.entry-index c.args.entries.now ++ c.entry-item.is i ∷ [])
    ∙ sym (take_more c.args.entries.now c.loop-entry.entry-index c.entry-item.result c.loop-entry-test.true)

pub returns : goal.returns
returns g c = c.loop-entry.invariant ∙ take_all c.loop-entry.entry-index c.args.entries.now c.loop-entry-test.false
