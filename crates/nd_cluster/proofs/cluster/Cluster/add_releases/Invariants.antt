use Rattle.std.proofs.Common.{◌≡◌, ◌-◌, length, List}
use Rattle.std.specs.List.{flat_map, range_with_len}
use Rattle.nd_steps.specs.declared.record.Record.{Record}
use Rattle.nd_cluster.specs.Moves.{AddsPlanned, releases, releases_of}
use Rattle.nd_cluster.proofs.cluster.Cluster.add_releases.Given as goal

abbrev pub invariant-loop-p : goal.invariant-loop-p
invariant-loop-p g l = record {
  adds : (new : List (Record g.row.A.Denot)) → AddsPlanned l.self (flat_map (releases_of l.self) (range_with_len l.p (l.p-end - l.p))) l.moves.items new → AddsPlanned l.self (releases l.self) l.initial.moves.items new;
  end : l.p-end ≡ length l.self.processors;
}
