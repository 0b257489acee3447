use Rattle.std.proofs.Common.{◌≡◌, map, take}
use Rattle.nd_why.specs.Why.{account}
use Rattle.nd_why.proofs.query.reasons_at.Given as goal

abbrev pub invariant-loop-entry : goal.invariant-loop-entry
invariant-loop-entry g l = l.reasons.items ≡ map (λ e. account l.parts l.q e.0) (take l.entry-index l.entry-items)
