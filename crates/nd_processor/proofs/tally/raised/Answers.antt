use Rattle.std.proofs.Common.{arith}
use Rattle.nd_processor.proofs.tally.raised.Goals as goal

pub returns-then-n-count-clause-more : goal.returns-then-n-count-clause-more
returns-then-n-count-clause-more c = λ fits. absurd (omega (arith, fits, c.if-n-count.true))
