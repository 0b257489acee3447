use Rattle.std.proofs.Common.{◌≡◌, ◌++◌, map}
use Rattle.std.specs.Prelude.{filter}
use Rattle.nd_steps.specs.Refusals.{supporting_points, supports_at}
use Rattle.nd_steps.proofs.broadcast.supporting_points.Given as goal

-- the points so far, and those of the requests that are left
abbrev pub invariant-loop-point : goal.invariant-loop-point
invariant-loop-point g l = l.points.items ++ filter (supports_at l.graph) (map (λ e. e.0) l.point-iterator) ≡ supporting_points l.graph l.processor
