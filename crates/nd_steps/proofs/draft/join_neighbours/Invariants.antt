use Rattle.std.proofs.Common.{◌≡◌, ◌++◌}
use Rattle.std.specs.Vec.Iter.{into_iter_items}
use Rattle.nd_steps.specs.Drafts.{joins, joined}
use Rattle.nd_steps.proofs.draft.join_neighbours.Given as goal

-- the joined changes, the last change and those that are left are together the result
abbrev pub invariant-loop-change : goal.invariant-loop-change
invariant-loop-change g l = l.joined.items ++ joins l.last (into_iter_items l.change-iterator) ≡ joined l.fn.sorted.items
