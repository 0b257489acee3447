use Rattle.std.proofs.lemmas.Result.{IfOk-weaker}
use Rattle.nd_steps.proofs.Notices.{noticed_leads}
use Rattle.nd_steps.proofs.react.notice_changes.Goals as goal

pub returns : goal.returns
returns g c = IfOk-weaker c.join.result _ _ (λ v joins s has so.
    let by = c.args.by.now in
    noticed_leads s by.graph.now by.n by.p by.vertex has c.args.effect.now c.in_ok-draft.ensures.values c.args.time.now so
    c.in_ok-draft.draft.changes.items c.in_ok-draft.ensures.changes c.join.ensures.few v.items joins) c.join.ensures.joined
