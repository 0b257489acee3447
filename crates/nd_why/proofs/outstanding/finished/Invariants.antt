use Rattle.nd_why.proofs.Before.{NoneUpTo}
use Rattle.nd_why.proofs.outstanding.finished.Given as goal

abbrev pub invariant-loop-processor : goal.invariant-loop-processor
invariant-loop-processor g l = NoneUpTo l.parts.graph l.extent l.point l.parts.processors l.processor-index
