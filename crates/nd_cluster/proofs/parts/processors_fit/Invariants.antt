use Rattle.std.proofs.Common.{ℕ, ◌<◌, get_or}
use Rattle.nd_processor.specs.State.{ProcessorState}
use Rattle.nd_protocol.specs.Fitting.{ProcessorFits, ProcessorIsWithin}
use Rattle.nd_cluster.proofs.parts.processors_fit.Given as goal

abbrev pub invariant-loop-processor : goal.invariant-loop-processor
invariant-loop-processor g l = record {
  fits : (k : ℕ) (d : ProcessorState) → k < l.processor-index → ProcessorFits l.graph (get_or l.processors k d);
  within : (k : ℕ) (d : ProcessorState) → k < l.processor-index → ProcessorIsWithin (get_or l.processors k d);
}
