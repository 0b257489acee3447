use Rattle.std.proofs.Common.{◌≡◌, take, map}
use Rattle.nd_processor.specs.State.{token_point}
use Rattle.nd_processor.proofs.start.points_of.Given as goal

abbrev pub invariant-loop-token : goal.invariant-loop-token
invariant-loop-token g l = l.points.items ≡ map (λ e. token_point e.0 e.1) (take l.token-index l.tokens)
