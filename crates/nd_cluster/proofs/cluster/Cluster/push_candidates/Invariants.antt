use Rattle.std.proofs.Common.{◌≡◌, ◌++◌}
use Rattle.nd_cluster.specs.Candidates.{candidates_of}
use Rattle.nd_cluster.proofs.cluster.Cluster.push_candidates.Given as goal

-- what is appended, and the candidates that are left
abbrev pub invariant-loop-step : goal.invariant-loop-step
invariant-loop-step g l = l.steps.items ++ l.step-iterator ≡ l.initial.steps.items ++ candidates_of l.self l.p
