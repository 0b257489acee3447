use Rattle.std.proofs.Common.{◌≡◌, ◌++◌, drop}
use Rattle.nd_map.proofs.growing.as_tree.Given as goal

abbrev pub invariant-loop-entry : goal.invariant-loop-entry
invariant-loop-entry g l = l.tree ++ drop l.entry-index l.entries ≡ l.entries
