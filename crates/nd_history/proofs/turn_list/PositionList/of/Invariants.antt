use Rattle.std.proofs.Common.{◌≡◌, map, take}
use Rattle.nd_history.proofs.turn_list.PositionList.of.Given as goal

abbrev pub invariant-loop-changed : goal.invariant-loop-changed
invariant-loop-changed g l = l.items.items ≡ map (λ c. c.position) (take l.changed-index l.changes)
