use Rattle.std.proofs.lemmas.Result.{IfOk-weaker}
use Rattle.nd_steps.proofs.Posts.{posted_leads}
use Rattle.nd_steps.proofs.post.post_changes.Goals as goal

pub returns : goal.returns
returns g c = IfOk-weaker c.join.result _ _ (λ v joins s has.
    let by = c.args.by.now in
    posted_leads s by.graph.now by.n by.p by.vertex has c.args.batch.now c.in_ok-draft.draft.changes.items c.in_ok-draft.ensures c.join.ensures.few v.items joins) c.join.ensures.joined
