use Rattle.std.proofs.Common.{◌≡◌, ◌++◌, drop}
use Rattle.nd_steps.specs.Drafts.{arrivals, values_by}
use Rattle.nd_steps.proofs.emit.emit_values.Given as goal

abbrev pub invariant-loop-value : goal.invariant-loop-value
invariant-loop-value g l = record {
  p : l.draft.p ≡ l.initial.draft.p;
  made : l.draft.changes.items
      ++ arrivals l.initial.draft.p (values_by l.outgoing.dest l.by.graph.now l.by.n l.by.p l.by.vertex l.outgoing.port l.outgoing.time.now (drop l.value-index l.outgoing.values.now))
      ≡ l.initial.draft.changes.items
      ++ arrivals l.initial.draft.p (values_by l.outgoing.dest l.by.graph.now l.by.n l.by.p l.by.vertex l.outgoing.port l.outgoing.time.now l.outgoing.values.now);
}
