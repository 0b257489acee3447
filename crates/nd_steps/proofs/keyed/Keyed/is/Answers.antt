use Rattle.std.proofs.Common.{◌≡◌, ◌<◌, ◌≤◌, List, [], ◌∷◌, ◌++◌, length, sym, ◌∙◌, arith}
use Rattle.std.proofs.lemmas.List.{take_all, take_more}
use Rattle.nd_steps.specs.Borrowed.{change_at}
use Rattle.nd_steps.specs.declared.change.Change.{Change}
use Rattle.nd_steps.proofs.keyed.Keyed.is.Goals as goal

pub loop-i-preserved : goal.loop-i-preserved
loop-i-preserved c =
    let told : List Change = c.args.self.now in
    let cs : List Change = c.args.changes.now in
    let i = c.loop-i.i in
    let lt : i < length cs = omega (arith, c.loop-i-test.true) in
    let lt' : i < length told = omega (arith, lt, c.len.ensures, c.if-len-changes.false) in
    let here : change_at c.at.result ≡ c.index-changes-i.result = sym c.borrowed.ensures ∙ c.same.ensures c.if-not-same.false ∙ c.borrowed-in-loop-i.ensures in
    take_more told i (change_at c.at.result) lt'
    ∙ (λ j. c.loop-i.invariant j ++ (sym c.at.ensures ∙ here ∙ c.index-changes-i.is) j ∷ [])
    ∙ sym (take_more cs i c.index-changes-i.result lt)

pub returns : goal.returns
returns c = λ _.
    let told : List Change = c.args.self.now in
    let cs : List Change = c.args.changes.now in
    let past : length cs ≤ c.loop-i.i = omega (arith, c.loop-i-test.false) in
    let past' : length told ≤ c.loop-i.i = omega (arith, past, c.len.ensures, c.if-len-changes.false) in
    sym (take_all c.loop-i.i told past') ∙ c.loop-i.invariant ∙ take_all c.loop-i.i cs past
