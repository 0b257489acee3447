use Rattle.std.proofs.Common.{rules}
use Rattle.nd_protocol.proofs.step.Step.copy.Goals as goal

pub returns-in_ok-copy-in-Feed : goal.returns-in_ok-copy-in-Feed
returns-in_ok-copy-in-Feed g c = search rules
