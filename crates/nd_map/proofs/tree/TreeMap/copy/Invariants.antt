use Rattle.std.proofs.Common.{◌≡◌, ◌++◌}
use Rattle.nd_map.proofs.tree.TreeMap.copy.Given as goal

abbrev pub invariant-loop-key : goal.invariant-loop-key
invariant-loop-key g l = l.entries.items ++ l.key-iterator ≡ l.self
