use Rattle.std.proofs.Common.{◌++◌, ◌∙◌}
use Rattle.nd_steps.specs.Drafts.{arrivals, made_by, emitted_by}
use Rattle.nd_steps.proofs.DraftsLemmas.{flat_more}
use Rattle.nd_steps.proofs.emit.emit_all.Goals as goal

pub loop-emission-preserved : goal.loop-emission-preserved
loop-emission-preserved g c =
    let a = c.args in
    let by = a.by.now in
    record {
      p = c.in_ok-emit.ensures.p ∙ c.loop-emission.invariant.p;
      made = flat_more a.draft.now.p c.loop-emission.draft.p c.loop-emission.draft.changes.items c.emit.new.draft.changes.items
          (a.draft.now.changes.items ++ arrivals a.draft.now.p (emitted_by by.graph.now by.n by.p by.vertex a.emissions.now)) c.loop-emission.invariant.p
          (made_by by.graph.now by.n by.p by.vertex) a.emissions.now c.loop-emission.emission-index c.emission-item.result c.loop-emission-test.true c.emission-item.is
          c.in_ok-emit.ensures.changes c.loop-emission.invariant.made;
    }
