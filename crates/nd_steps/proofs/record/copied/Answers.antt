use Rattle.std.proofs.Common.{◌<◌, ◌≤◌, List, [], ◌∷◌, ◌++◌, length, sym, ◌∙◌, arith}
use Rattle.std.proofs.lemmas.List.{take_all, take_more}
use Rattle.nd_steps.specs.Borrowed.{change_at}
use Rattle.nd_steps.specs.declared.change.Change.{Change}
use Rattle.nd_steps.proofs.record.copied.Goals as goal

pub loop-i-preserved : goal.loop-i-preserved
loop-i-preserved g c =
    let cs : List Change = c.args.changes.now in
    let lt : c.loop-i.i < length cs = omega (arith, c.loop-i-test.true, c.len-count.ensures) in
    c.in_ok-push.ensures.items
    ∙ (λ i. c.loop-i.invariant i ++ (c.owned.ensures ∙ c.borrowed.ensures ∙ c.at.ensures) i ∷ [])
    ∙ sym (take_more cs c.loop-i.i (change_at c.at.result) lt)

pub returns : goal.returns
returns g c =
    let past : length c.args.changes.now ≤ c.loop-i.i = omega (arith, c.loop-i-test.false, c.len-count.ensures) in
    c.loop-i.invariant ∙ take_all c.loop-i.i c.args.changes.now past
