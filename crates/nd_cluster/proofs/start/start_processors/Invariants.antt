use Rattle.std.proofs.Common.{◌≡◌, replicate}
use Rattle.nd_processor.specs.Start.{start_processor}
use Rattle.nd_cluster.proofs.start.start_processors.Given as goal

abbrev pub invariant-loop : goal.invariant-loop
invariant-loop g l = l.processors.items ≡ replicate l.counter (start_processor l.graph)
