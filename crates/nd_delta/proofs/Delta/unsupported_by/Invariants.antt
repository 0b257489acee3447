use Rattle.std.proofs.Common.{◌≡◌}
use Rattle.std.specs.Prelude.{pos, ◌<ℤ◌, Contains, IfSome}
use Rattle.nd_paths.specs.Order.{IsStrictlyBefore}
use Rattle.nd_delta.specs.Delta.{at, entries}
use Rattle.nd_delta.specs.Upright.{IsSupported}
use Rattle.nd_delta.specs.Least.{AllUpTo}
use Rattle.nd_delta.proofs.Delta.unsupported_by.Given as goal

-- each positive entry so far is supported, and so is the stored point
abbrev pub invariant-loop-entry : goal.invariant-loop-entry
invariant-loop-entry g l = record {
  items : l.entry-items ≡ entries l.self;
  others : AllUpTo (λ y. pos 0 <ℤ at l.self y → IsSupported (IsStrictlyBefore l.paths) (Contains l.held) (at l.self) y) (entries l.self) l.entry-index;
  last : IfSome l.supported (λ x. IsSupported (IsStrictlyBefore l.paths) (Contains l.held) (at l.self) x.now);
}
