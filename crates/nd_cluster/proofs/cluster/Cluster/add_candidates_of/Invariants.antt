use Rattle.std.proofs.Common.{List}
use Rattle.nd_steps.specs.declared.record.Record.{Record}
use Rattle.nd_cluster.specs.Candidates.{candidates_of}
use Rattle.nd_cluster.specs.Moves.{AddsPlanned}
use Rattle.nd_cluster.proofs.cluster.Cluster.add_candidates_of.Given as goal

abbrev pub invariant-loop-step : goal.invariant-loop-step
invariant-loop-step g l = (new : List (Record g.row.A.Denot)) → AddsPlanned l.self l.step-iterator l.moves.items new → AddsPlanned l.self (candidates_of l.self l.p) l.initial.moves.items new
