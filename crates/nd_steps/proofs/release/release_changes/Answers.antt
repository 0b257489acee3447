use Rattle.std.proofs.lemmas.Result.{IfOk-weaker}
use Rattle.nd_steps.proofs.Releases.{released_leads}
use Rattle.nd_steps.proofs.release.release_changes.Goals as goal

pub returns : goal.returns
returns g c = IfOk-weaker c.join.result _ _ (λ v joins s has so.
    let by = c.args.by.now in
    released_leads s by.p by.vertex c.args.times.now c.args.asks so
    c.in_ok-draft.draft.changes.items c.in_ok-draft.ensures c.join.ensures.few v.items joins) c.join.ensures.joined
