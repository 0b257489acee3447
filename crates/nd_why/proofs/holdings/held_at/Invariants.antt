use Rattle.std.proofs.Common.{◌≡◌, slice_index_or}
use Rattle.nd_processor.specs.State.{idle}
use Rattle.nd_why.specs.Why.{in_turn, held_by}
use Rattle.nd_why.proofs.holdings.held_at.Given as goal

abbrev pub invariant-loop-p : goal.invariant-loop-p
invariant-loop-p g l = l.held.items ≡ in_turn l.p (λ p. held_by p (slice_index_or l.processors p idle) l.point)
