use Rattle.nd_cluster.specs.Candidates.{Lists, candidates_of}
use Rattle.nd_cluster.specs.declared.candidate.Candidates.{Candidates}
use Rattle.nd_cluster.proofs.cluster.Cluster.list_on.Given as goal

abbrev pub invariant-loop-step : goal.invariant-loop-step
invariant-loop-step g l = (new : Candidates g.row.A.Denot) → Lists l.self l.step-iterator l.listed new → Lists l.self (candidates_of l.self l.p) l.initial.listed new
