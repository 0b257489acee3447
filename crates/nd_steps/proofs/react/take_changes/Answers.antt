use Rattle.std.proofs.lemmas.Result.{IfOk-weaker}
use Rattle.nd_steps.proofs.Takes.{taken_leads}
use Rattle.nd_steps.proofs.react.take_changes.Goals as goal

pub returns : goal.returns
returns g c = IfOk-weaker c.join.result _ _ (λ v joins s has so.
    let by = c.args.by.now in
    let taken = c.args.taken.now in
    taken_leads s by.graph.now by.n by.p by.vertex has taken.effect.now c.in_ok-draft.ensures.values taken.key.now taken.asks so
    c.in_ok-draft.draft.changes.items c.in_ok-draft.ensures.changes c.join.ensures.few v.items joins) c.join.ensures.joined
