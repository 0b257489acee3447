use Rattle.std.proofs.Common.{◌≡◌, ◌≤◌, ◌*◌, ◌^◌, take, sum_by}
use Rattle.nd_processor.specs.State.{ProcessorState, held}
use Rattle.nd_cluster.proofs.readers.count_all.Given as goal

abbrev pub invariant-loop-processor : goal.invariant-loop-processor
invariant-loop-processor g l = record {
  sum : l.total ≡ sum_by (λ (q : ProcessorState). held q l.point) (take l.processor-index l.processors);
  few : l.total ≤ l.processor-index * 2 ^ 121;
}
