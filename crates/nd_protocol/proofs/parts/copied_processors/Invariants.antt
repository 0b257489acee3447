use Rattle.std.proofs.Common.{◌≡◌, take}
use Rattle.nd_protocol.proofs.parts.copied_processors.Given as goal

abbrev pub invariant-loop-processor : goal.invariant-loop-processor
invariant-loop-processor g l = l.copied.items ≡ take l.processor-index l.processors
