use Rattle.std.proofs.Common.{◌≡◌, ◌≤◌, ◌*◌, ◌^◌, take}
use Rattle.nd_cluster.specs.Sinks.{sunk}
use Rattle.nd_cluster.proofs.sinks.count_sinks.Given as goal

abbrev pub invariant-loop-processor : goal.invariant-loop-processor
invariant-loop-processor g l = record {
  sum : l.total ≡ sunk (take l.processor-index l.processors) l.vertex l.value;
  few : l.total ≤ l.processor-index * 2 ^ 40;
}
