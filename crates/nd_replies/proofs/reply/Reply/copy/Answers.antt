use Rattle.std.proofs.Common.{sym}
use Rattle.nd_replies.proofs.reply.Reply.copy.Goals as goal

pub returns-in-Set : goal.returns-in-Set
returns-in-Set c = sym c.in-Set.is
