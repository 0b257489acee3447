use Rattle.std.proofs.Common.{◌≡◌, ◌*◌, pos, ◌+ℤ◌}
use Rattle.nd_paths.specs.declared.point.Pointstamp.{Pointstamp}
use Rattle.nd_delta.specs.Delta.{at}
use Rattle.nd_cluster.specs.Starting.{requests_weigh}
use Rattle.nd_cluster.proofs.start.count_requests.Given as goal

-- what is counted, and the requests that are left
abbrev pub invariant-loop-point : goal.invariant-loop-point
invariant-loop-point g l =
    (x : Pointstamp) → at l.counted x +ℤ pos (l.n * requests_weigh l.point-iterator x) ≡ at l.initial.counted x +ℤ pos (l.n * requests_weigh l.fn.requests x)
