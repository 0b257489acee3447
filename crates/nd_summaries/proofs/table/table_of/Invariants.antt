use Rattle.nd_summaries.specs.Shared.{IsIndexed}
use Rattle.nd_summaries.proofs.Made.{Made}
use Rattle.nd_summaries.proofs.table.table_of.Given as goal

-- the rows of the locations so far, none of which fails
abbrev pub invariant-loop-location : goal.invariant-loop-location
invariant-loop-location g l = record {
  indexed : IsIndexed l.shared.lists.items l.shared.buckets.items;
  made : Made l.order l.graph l.shared.lists.items l.rows.items l.location;
}
