use Rattle.std.proofs.Common.{◌≡◌, length}
use Rattle.nd_cluster.specs.Candidates.{receives_after}
use Rattle.nd_cluster.proofs.cluster.Cluster.next_sender.Given as goal

abbrev pub invariant-loop-sender : goal.invariant-loop-sender
invariant-loop-sender g l = record {
  same : receives_after {A = g.row.A.Denot} l.self l.p l.from ≡ receives_after l.self l.p l.sender;
  end : l.sender-end ≡ length l.self.processors;
}
