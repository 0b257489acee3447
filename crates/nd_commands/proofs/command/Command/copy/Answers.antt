use Rattle.std.proofs.Common.{sym}
use Rattle.nd_commands.proofs.command.Command.copy.Goals as goal

pub returns-in-Redo : goal.returns-in-Redo
returns-in-Redo g c = sym c.in-Redo.is
