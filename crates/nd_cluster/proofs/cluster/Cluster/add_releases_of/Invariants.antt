use Rattle.std.proofs.Common.{List}
use Rattle.nd_steps.specs.declared.record.Record.{Record}
use Rattle.std.specs.List.{flat_map}
use Rattle.nd_cluster.specs.Moves.{AddsPlanned, releases_at, releases_of}
use Rattle.nd_cluster.proofs.cluster.Cluster.add_releases_of.Given as goal

abbrev pub invariant-loop-point : goal.invariant-loop-point
invariant-loop-point g l =
    (new : List (Record g.row.A.Denot)) → AddsPlanned l.self (flat_map (λ e. releases_at l.self l.p e.0) l.point-iterator) l.moves.items new → AddsPlanned l.self (releases_of l.self l.p) l.initial.moves.items new
