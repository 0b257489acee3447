use Rattle.rewind_clients.proofs.CommandsLemmas.{lists-set}
use Rattle.rewind_clients.proofs.intake.add_command.Goals as goal

pub returns : goal.returns
returns c = lists-set c.args.commands.now.items c.args.order.client c.push.new.self _ c.args.order.command c.requires (rw c.index_mut.ensures.value at c.in_ok-push.ensures.items)
