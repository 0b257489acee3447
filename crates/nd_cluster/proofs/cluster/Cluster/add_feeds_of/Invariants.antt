use Rattle.std.proofs.Common.{◌≡◌, ◌-◌, length, List}
use Rattle.std.specs.List.{flat_map, range_with_len}
use Rattle.nd_steps.specs.declared.record.Record.{Record}
use Rattle.nd_cluster.specs.Moves.{AddsPlanned, feeds_at, feeds_of}
use Rattle.nd_cluster.proofs.cluster.Cluster.add_feeds_of.Given as goal

abbrev pub invariant-loop-vertex : goal.invariant-loop-vertex
invariant-loop-vertex g l = record {
  adds : (new : List (Record g.row.A.Denot)) → AddsPlanned l.self (flat_map (feeds_at l.self l.p) (range_with_len l.vertex (l.vertex-end - l.vertex))) l.moves.items new → AddsPlanned l.self (feeds_of l.self l.p) l.initial.moves.items new;
  end : l.vertex-end ≡ length l.self.graph.vertices;
}
