use Rattle.std.proofs.Common.{◌≡◌, ◌++◌, ◌-◌, length}
use Rattle.std.specs.Prelude.{option_copied}
use Rattle.std.specs.List.{range_with_len}
use Rattle.nd_cluster.specs.Candidates.{candidates_among, candidates_on}
use Rattle.nd_cluster.proofs.cluster.Cluster.all_candidates.Given as goal

-- the candidates of the processors before p, and those of the others
abbrev pub invariant-loop-p : goal.invariant-loop-p
invariant-loop-p g l = record {
  steps : l.steps.items ++ candidates_on l.self (option_copied l.only) (range_with_len l.p (l.p-end - l.p)) ≡ candidates_among l.self (option_copied l.only);
  end : l.p-end ≡ length l.self.processors;
}
