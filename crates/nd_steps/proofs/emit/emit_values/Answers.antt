use Rattle.std.proofs.Common.{◌++◌, ◌∙◌, ap}
use Rattle.nd_steps.specs.Drafts.{arrivals, made_to, emission_of, values_by}
use Rattle.std.proofs.lemmas.List.{get_or_default}
use Rattle.nd_steps.proofs.DraftsLemmas.{flat_more}
use Rattle.nd_steps.proofs.emit.emit_values.Goals as goal

pub loop-value-preserved : goal.loop-value-preserved
loop-value-preserved g c =
    let a = c.args in
    let by = a.by.now in
    let out = a.outgoing.now in
    record {
      p = c.in_ok-emit.ensures.p ∙ c.loop-value.invariant.p;
      made = flat_more a.draft.now.p c.loop-value.draft.p c.loop-value.draft.changes.items c.emit.new.draft.changes.items
          (a.draft.now.changes.items ++ arrivals a.draft.now.p (values_by out.dest by.graph.now by.n by.p by.vertex out.port out.time.now out.values.now)) c.loop-value.invariant.p
          (λ v. made_to out.dest by.graph.now by.n by.p by.vertex (emission_of out.port out.time.now v)) out.values.now c.loop-value.value-index _ c.loop-value-test.true
          (get_or_default out.values.now c.loop-value.value-index _ _ c.loop-value-test.true)
          (c.in_ok-emit.ensures.changes ∙ ap (λ e. c.loop-value.draft.changes.items ++ arrivals c.loop-value.draft.p (made_to out.dest by.graph.now by.n by.p by.vertex e)) c.emission.ensures) c.loop-value.invariant.made;
    }
