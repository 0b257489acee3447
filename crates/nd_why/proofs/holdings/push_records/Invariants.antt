use Rattle.std.proofs.Common.{◌≡◌, ◌++◌}
use Rattle.std.specs.List.{flat_map}
use Rattle.nd_why.specs.Why.{if_at, records_at}
use Rattle.nd_why.specs.declared.answer.Held.TheVariants.{Records}
use Rattle.nd_why.proofs.holdings.push_records.Given as goal

abbrev pub invariant-loop-key : goal.invariant-loop-key
invariant-loop-key g l = l.held.items ++ flat_map (λ e. if_at l.point e.0.point (Records l.p e.0.value e.1)) l.key-iterator ≡ l.initial.held.items ++ records_at l.p l.processor l.point
