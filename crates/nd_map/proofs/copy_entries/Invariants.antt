use Rattle.std.proofs.Common.{◌≡◌, take}
use Rattle.nd_map.proofs.copy_entries.Given as goal

abbrev pub invariant-loop-entry : goal.invariant-loop-entry
invariant-loop-entry g l = l.copied.items ≡ take l.entry-index l.entries
