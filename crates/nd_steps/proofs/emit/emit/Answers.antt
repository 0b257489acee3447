use Rattle.std.proofs.Common.{◌<◌, ◌++◌, List, length, get_or, ap, subst, ◌∙◌}
use Rattle.nd_graph.specs.declared.graph.Edge.{Edge}
use Rattle.nd_steps.specs.Drafts.{arrivals, made_to}
use Rattle.nd_steps.proofs.DraftsLemmas.{edge_more}
use Rattle.nd_steps.proofs.emit.emit.Goals as goal

pub loop-i-preserved : goal.loop-i-preserved
loop-i-preserved g c =
    let a = c.args in
    let by = a.by.now in
    let e = c.edges-edge-items.ensures.edges in
    record {
      p = c.in_ok-emit_on.ensures.p ∙ c.loop-i.invariant.p;
      made = edge_more a.draft.now.p c.loop-i.draft.p c.loop-i.draft.changes.items c.emit_on.new.draft.changes.items
          (a.draft.now.changes.items ++ arrivals a.draft.now.p (made_to a.dest by.graph.now by.n by.p by.vertex a.emission.now)) c.loop-i.invariant.p
          a.dest by.n by.p by.vertex a.emission.now c.first_edge-first.result by.graph.now.edges c.loop-i.i c.edge-item.result
          (subst (λ (es : List Edge). c.loop-i.i < length es) e c.loop-i-test.true) (c.edge-item.is ∙ ap (λ (es : List Edge). get_or es c.loop-i.i c.edge-item.result) e)
          c.in_ok-emit_on.ensures.changes c.loop-i.invariant.made;
    }
