use Rattle.std.proofs.Common.{◌≡◌, replicate}
use Rattle.nd_map.specs.Counts.{none}
use Rattle.nd_processor.proofs.start.no_items.Given as goal

abbrev pub invariant-loop : goal.invariant-loop
invariant-loop g l = l.items.items ≡ replicate l.counter none
