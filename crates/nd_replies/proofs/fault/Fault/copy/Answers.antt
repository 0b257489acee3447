use Rattle.std.proofs.Common.{sym}
use Rattle.nd_replies.proofs.fault.Fault.copy.Goals as goal

pub returns-in-AtEnd : goal.returns-in-AtEnd
returns-in-AtEnd c = sym c.in-AtEnd.is
