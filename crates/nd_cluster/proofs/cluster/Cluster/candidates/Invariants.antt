use Rattle.std.proofs.Common.{◌≡◌, ◌-◌, length, None}
use Rattle.std.specs.List.{range_with_len}
use Rattle.nd_cluster.specs.Candidates.{AreListed, Lists, candidates, candidates_on}
use Rattle.nd_cluster.specs.declared.candidate.Candidates.{Candidates}
use Rattle.nd_cluster.proofs.cluster.Cluster.candidates.Given as goal

abbrev pub invariant-loop-p : goal.invariant-loop-p
invariant-loop-p g l = record {
  listed : (new : Candidates g.row.A.Denot) → Lists l.self (candidates_on l.self None (range_with_len l.p (l.p-end - l.p))) l.listed new → AreListed l.self (candidates l.self) new;
  end : l.p-end ≡ length l.self.processors;
}
