use Rattle.std.proofs.Common.{◌≡◌, length, sum_by, take}
use Rattle.nd_map.specs.Counts.{entries}
use Rattle.nd_state_json.proofs.state.item_count.Given as goal

abbrev pub invariant-loop-vertex : goal.invariant-loop-vertex
invariant-loop-vertex g l = l.count ≡ sum_by (λ i. length (entries i)) (take l.vertex l.processor.items)
