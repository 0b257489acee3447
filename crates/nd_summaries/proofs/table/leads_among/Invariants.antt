use Rattle.std.proofs.Common.{take}
use Rattle.nd_summaries.specs.Table.{SomeLeads}
use Rattle.nd_summaries.proofs.table.leads_among.Given as goal

-- none of the summaries so far leads there
abbrev pub invariant-loop-summary : goal.invariant-loop-summary
invariant-loop-summary l = SomeLeads l.order (take l.summary-index l.list) l.from l.to → ⊥
