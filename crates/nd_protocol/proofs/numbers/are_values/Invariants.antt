use Rattle.std.proofs.Common.{ℕ, ℤ, ◌<◌, get_or}
use Rattle.nd_protocol.specs.Ranges.{IsValue}
use Rattle.nd_protocol.proofs.numbers.are_values.Given as goal

abbrev pub invariant-loop-value : goal.invariant-loop-value
invariant-loop-value l = (k : ℕ) (d : ℤ) → k < l.value-index → IsValue (get_or l.values k d)
