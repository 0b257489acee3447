use Rattle.std.proofs.Common.{◌≡◌, ◌≤◌, ◌<◌, length}
use Rattle.nd_protocol.specs.State.{ClusterState}
use Rattle.nd_protocol.specs.Fitting.{IsState}
use Rattle.nd_steps.specs.Changes.{state_at}
use Rattle.nd_steps.specs.Records.{RunsTo}
use Rattle.nd_steps.proofs.run.undo_all.Given as goal

-- the state after the changes that are left, from any initial state
abbrev pub invariant-loop-i : goal.invariant-loop-i
invariant-loop-i g l = record {
  within : l.i ≤ length (g.C.Listing.listed l.changes);
  now : (s : ClusterState) → IsState s → RunsTo s (g.C.Listing.listed l.changes) l.fn.parts → l.parts ≡ state_at s (g.C.Listing.listed l.changes) l.i;
}

-- the same, forward to the last
abbrev pub invariant-loop-j : goal.invariant-loop-j
invariant-loop-j g l = record {
  within : l.j ≤ length (g.C.Listing.listed l.changes);
  past : l.i < l.j;
  now : (s : ClusterState) → IsState s → RunsTo s (g.C.Listing.listed l.changes) l.fn.parts → l.parts ≡ state_at s (g.C.Listing.listed l.changes) l.j;
}
