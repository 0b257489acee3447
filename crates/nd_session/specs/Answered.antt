-- How the answer to a client's command changes what is under the lock. Only private contracts use these definitions.
use Rattle.std.specs.Prelude.{◌≡◌, ◌<◌, [], ◌∷◌, ◌++◌, length}
use Rattle.nd_time.specs.Limits.{max_log}
use Rattle.nd_commands.specs.declared.command.Command.{Command}
use Rattle.nd_session.specs.declared.receipt.Receipt.{Receipt}
use Rattle.nd_session.specs.declared.shared.Shared.{Shared}
use Rattle.nd_session.specs.Log.{IsPlaced, IsLegal, opening_of}
use Rattle.nd_session.specs.Clients.{ClientValue, IsKnown}

-- the command of a known client was answered by this receipt, which is now the last entry of the log
pub record IsAnswered {A : Type 0} (old new : Shared A) (p : ClientValue A) (command : Command A) (r : Receipt A) : Type 0 where
  pub known : IsKnown old.entered old.state.log p
  pub room : length old.state.log < max_log
  pub placed : IsPlaced old.state.log (length old.state.log) r
  pub client : r.client ≡ p.number
  pub command_is : r.command ≡ command
  pub logged : new.state.log ≡ old.state.log ++ r ∷ []
  pub legal : IsLegal (opening_of old.state.machine) new.state.log new.state.machine
  pub base : new.state.machine.timeline.base ≡ old.state.machine.timeline.base
