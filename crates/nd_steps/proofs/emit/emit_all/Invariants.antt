use Rattle.std.proofs.Common.{◌≡◌, ◌++◌, drop}
use Rattle.nd_steps.specs.Drafts.{arrivals, emitted_by}
use Rattle.nd_steps.proofs.emit.emit_all.Given as goal

abbrev pub invariant-loop-emission : goal.invariant-loop-emission
invariant-loop-emission g l = record {
  p : l.draft.p ≡ l.initial.draft.p;
  made : l.draft.changes.items ++ arrivals l.initial.draft.p (emitted_by l.by.graph.now l.by.n l.by.p l.by.vertex (drop l.emission-index l.emissions))
      ≡ l.initial.draft.changes.items ++ arrivals l.initial.draft.p (emitted_by l.by.graph.now l.by.n l.by.p l.by.vertex l.emissions);
}
