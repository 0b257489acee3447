use Rattle.std.proofs.Common.{◌≡◌, ◌-◌, length, List, None}
use Rattle.std.specs.List.{range_with_len}
use Rattle.nd_steps.specs.declared.record.Record.{Record}
use Rattle.nd_cluster.specs.Candidates.{candidates, candidates_on}
use Rattle.nd_cluster.specs.Moves.{AddsPlanned}
use Rattle.nd_cluster.proofs.cluster.Cluster.add_candidates.Given as goal

abbrev pub invariant-loop-p : goal.invariant-loop-p
invariant-loop-p g l = record {
  adds : (new : List (Record g.row.A.Denot)) → AddsPlanned l.self (candidates_on l.self None (range_with_len l.p (l.p-end - l.p))) l.moves.items new → AddsPlanned l.self (candidates l.self) l.initial.moves.items new;
  end : l.p-end ≡ length l.self.processors;
}
