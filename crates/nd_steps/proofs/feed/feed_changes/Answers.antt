use Rattle.std.proofs.lemmas.Result.{IfOk-weaker}
use Rattle.nd_steps.proofs.Feeds.{fed_leads}
use Rattle.nd_steps.proofs.feed.feed_changes.Goals as goal

pub returns : goal.returns
returns g c = IfOk-weaker c.join.result _ _ (λ v joins s has held.
    let by = c.args.by.now in
    let fed = c.args.fed.now in
    fed_leads s by.graph.now by.n by.p by.vertex fed.epoch fed.values.now fed.next has c.requires.input held c.in_ok-draft.ensures.fits c.requires.goes c.in_ok-draft.ensures.goes_to
    c.in_ok-draft.draft.changes.items c.in_ok-draft.ensures.changes c.join.ensures.few v.items joins) c.join.ensures.joined
