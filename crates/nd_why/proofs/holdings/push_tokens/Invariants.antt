use Rattle.std.proofs.Common.{◌≡◌, ◌++◌, take}
use Rattle.std.specs.List.{flat_map}
use Rattle.nd_processor.specs.State.{token_point}
use Rattle.nd_why.specs.Why.{if_at}
use Rattle.nd_why.specs.declared.answer.Held.TheVariants.{Token}
use Rattle.nd_why.proofs.holdings.push_tokens.Given as goal

abbrev pub invariant-loop-token : goal.invariant-loop-token
invariant-loop-token g l = l.held.items ≡ l.initial.held.items ++ flat_map (λ e. if_at l.point (token_point e.0 e.1) (Token l.p)) (take l.token-index l.token-items)
