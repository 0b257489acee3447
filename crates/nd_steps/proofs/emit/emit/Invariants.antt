use Rattle.std.proofs.Common.{◌≡◌, ◌+◌, ◌++◌, drop}
use Rattle.nd_protocol.specs.Steps.{made_on}
use Rattle.nd_steps.specs.Drafts.{arrivals, made_to}
use Rattle.nd_steps.proofs.emit.emit.Given as goal

-- the records on the edges so far and those on the rest are all records
abbrev pub invariant-loop-i : goal.invariant-loop-i
invariant-loop-i g l = record {
  p : l.draft.p ≡ l.initial.draft.p;
  made : l.draft.changes.items ++ arrivals l.initial.draft.p (made_on l.dest l.by.n l.by.p l.by.vertex l.emission.port l.emission.value l.emission.time (l.first + l.i) (drop l.i l.by.graph.now.edges))
      ≡ l.initial.draft.changes.items ++ arrivals l.initial.draft.p (made_to l.dest l.by.graph.now l.by.n l.by.p l.by.vertex l.emission);
}
