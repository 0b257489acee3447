use Rattle.std.proofs.Common.{sym, ◌∙◌, arith}
use Rattle.std.proofs.lemmas.List.{nil_from_length}
use Rattle.std.proofs.lemmas.Option.{IfSome_then}
use Rattle.nd_steps.proofs.OnwardLemmas.{none_leads, count_leads, one_leads, only_one}
use Rattle.nd_steps.proofs.onward.take_flow.Goals as goal

pub returns-in-empty-as_slice-clause-leads : goal.returns-in-empty-as_slice-clause-leads
returns-in-empty-as_slice-clause-leads g c = λ s has so.
    let by = c.args.by.now in
    let taken = c.args.taken.now in
    count_leads s by.graph.now by.n by.p by.vertex has taken.effect.now taken.key.now taken.asks so c.if-taken.false
    (sym c.as_slice.ensures.value ∙ nil_from_length _ (omega (arith, c.in-empty.len_below))) c.if-effect.true
    (sym c.as_slice-2.ensures.value ∙ nil_from_length _ (omega (arith, c.in-empty-as_slice.len_below)))

pub returns-in-empty-2-clause-leads : goal.returns-in-empty-2-clause-leads
returns-in-empty-2-clause-leads g c = λ s has so.
    let by = c.args.by.now in
    let taken = c.args.taken.now in
    none_leads s by.graph.now by.n by.p by.vertex has taken.effect.now taken.key.now taken.asks so c.if-taken.false
    (sym c.as_slice.ensures.value ∙ nil_from_length _ (omega (arith, c.in-empty.len_below))) c.if-effect.false
    (sym c.as_slice-2.ensures.value ∙ nil_from_length _ (omega (arith, c.in-empty-as_slice.len_below)))

pub returns-in-len1-clause-leads : goal.returns-in-len1-clause-leads
returns-in-len1-clause-leads g c = IfSome_then c.come_by.result c.come_by.ensures.comes (λ come comes s has so.
    let by = c.args.by.now in
    let taken = c.args.taken.now in
    one_leads s by.graph.now by.n by.p by.vertex has taken.effect.now taken.key.now taken.asks so c.if-taken.false
    (sym c.as_slice.ensures.value ∙ nil_from_length _ (omega (arith, c.in-empty.len_below))) c.if-not-effect.true c.emission-item.result
    (sym c.as_slice-2.ensures.value ∙ only_one c.as_slice-2.result.now c.emission-item.result c.in-len1.len_at_least c.in-len1.len_below c.emission-item.is) come comes)
