use Rattle.std.proofs.Common.{◌-◌, refl, sym, arith}
use Rattle.nd_view.proofs.keeping.nearest.Goals as goal

pub returns-then-is_near : goal.returns-then-is_near
returns-then-is_near c = (
  (c.partition_point-after.result - 1, omega (arith, c.partition_point-after.ensures.bound, c.if-after-eq0.false), sym c.index-kept-after.is),
  c.if-is_near.ensures.0 refl,
)
