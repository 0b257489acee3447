use Rattle.std.proofs.Common.{ℕ, ◌<◌, ◌≤◌, get_or}
use Rattle.std.specs.Int.{abs_diff}
use Rattle.nd_timeline.specs.declared.checkpoint.Checkpoint.{Checkpoint}
use Rattle.nd_timeline.proofs.walk.Kept.nearest.Given as goal

abbrev pub invariant-loop-i : goal.invariant-loop-i
invariant-loop-i g l = record {
  one : l.best < l.i;
  near : (k : ℕ) (d : Checkpoint g.row.A.Denot) → k < l.i → abs_diff (get_or l.self.checkpoints.items l.best d).at l.n ≤ abs_diff (get_or l.self.checkpoints.items k d).at l.n;
}
