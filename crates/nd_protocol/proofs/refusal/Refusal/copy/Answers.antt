use Rattle.std.proofs.Common.{rules}
use Rattle.nd_protocol.proofs.refusal.Refusal.copy.Goals as goal

pub returns-in-QueueFull : goal.returns-in-QueueFull
returns-in-QueueFull c = search rules
