use Rattle.std.proofs.Common.{◌≡◌, ◌*◌, pos, take}
use Rattle.nd_paths.specs.declared.point.Pointstamp.{Pointstamp}
use Rattle.nd_delta.specs.Delta.{at}
use Rattle.nd_cluster.specs.Starting.{tokens_weigh}
use Rattle.nd_cluster.proofs.start.tokens_counted.Given as goal

abbrev pub invariant-loop-token : goal.invariant-loop-token
invariant-loop-token g l = (x : Pointstamp) → at l.counted x ≡ pos (l.n * tokens_weigh (take l.token-index l.tokens) x)
