use Rattle.std.proofs.Common.{◌≡◌, take}
use Rattle.nd_processor.proofs.start.copied_items.Given as goal

abbrev pub invariant-loop-state : goal.invariant-loop-state
invariant-loop-state g l = l.copied.items ≡ take l.state-index l.items
