use Rattle.std.proofs.Common.{◌≡◌, [], drop, sym, ap, ◌∙◌}
use Rattle.std.proofs.Math.ListN.{drop_of_length-le}
use Rattle.nd_steps.specs.Effect.{lists_of}
use Rattle.nd_steps.specs.Alterations.{beside, altered_by}
use Rattle.nd_steps.proofs.EffectLemmas.{beside-nothing, add_more}
use Rattle.nd_steps.proofs.effect.Effect.add_all.Goals as goal

pub loop-change-preserved : goal.loop-change-preserved
loop-change-preserved g c =
    add_more c.args.processors.now c.args.changes.now c.loop-change.change-index c.change-item.result c.loop-change-test.true c.change-item.is
    (lists_of c.loop-change.self) (lists_of c.add.new.self) _ c.in_ok-add.ensures c.loop-change.invariant

pub returns : goal.returns
returns g c =
    let none : drop c.loop-change.change-index c.args.changes.now ≡ [] = drop_of_length-le c.args.changes.now c.loop-change-test.false in
    sym (beside-nothing (lists_of c.loop-change.self))
    ∙ ap (λ cs. beside (lists_of c.loop-change.self) (altered_by c.args.processors.now cs)) (sym none)
    ∙ c.loop-change.invariant
