use Rattle.std.proofs.Common.{take}
use Rattle.nd_summaries.specs.Shared.{AreNumbers, Extends, IsIndexed}
use Rattle.nd_summaries.proofs.shared.Shared.numbers.Given as goal

-- the numbers of the lists so far
abbrev pub invariant-loop-list : goal.invariant-loop-list
invariant-loop-list g l = record {
  indexed : IsIndexed l.self.lists.items l.self.buckets.items;
  named : AreNumbers l.self.lists.items l.numbers (take l.list-index l.row);
  extends : Extends l.fn.self.lists.items l.self.lists.items;
}
