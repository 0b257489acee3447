use Rattle.nd_view.specs.Counting.{ArePositive}
use Rattle.nd_view.specs.Kept.{IsHeldAt}
use Rattle.nd_view.specs.Rows.{joined}
use Rattle.nd_view.proofs.Walks.{IsRightUpTo}
use Rattle.nd_view.proofs.keeping.count_all.Given as goal

-- the entries of the rows so far have their counts
abbrev pub invariant-loop-r : goal.invariant-loop-r
invariant-loop-r g l = record {
  positive : ArePositive l.counts (joined l.made);
  right : IsRightUpTo l.paths l.counts (IsHeldAt l.counts) l.fn.made l.r 0 l.made;
}

abbrev pub invariant-loop-k : goal.invariant-loop-k
invariant-loop-k g l = record {
  positive : ArePositive l.counts (joined l.made);
  right : IsRightUpTo l.paths l.counts (IsHeldAt l.counts) l.fn.made l.r l.k l.made;
}
