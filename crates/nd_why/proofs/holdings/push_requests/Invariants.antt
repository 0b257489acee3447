use Rattle.std.proofs.Common.{◌≡◌, ◌++◌}
use Rattle.std.specs.List.{flat_map}
use Rattle.nd_why.specs.Why.{if_at, requests_at}
use Rattle.nd_why.specs.declared.answer.Held.TheVariants.{Request}
use Rattle.nd_why.proofs.holdings.push_requests.Given as goal

abbrev pub invariant-loop-key : goal.invariant-loop-key
invariant-loop-key g l = l.held.items ++ flat_map (λ e. if_at l.point e.0 (Request l.p)) l.key-iterator ≡ l.initial.held.items ++ requests_at l.p l.processor l.point
