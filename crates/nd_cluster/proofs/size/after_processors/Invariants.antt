use Rattle.std.proofs.Common.{◌≡◌, ◌+◌, take, sum_by}
use Rattle.nd_cluster.specs.Size.{processor_size}
use Rattle.nd_cluster.proofs.size.after_processors.Given as goal

abbrev pub invariant-loop-processor : goal.invariant-loop-processor
invariant-loop-processor g l = l.left + sum_by processor_size (take l.processor-index l.processors) ≡ l.fn.left
