-- What the log of a session determines, as a statement. A is the allocator of the steps' values.
use Rattle.std.specs.Prelude.{◌≡◌, List}
use Rattle.nd_machine.specs.Moves.{MachineValue}
use Rattle.nd_session.specs.Log.{Leads}
use Rattle.nd_session.specs.declared.receipt.Receipt.{Receipt}

-- the entries of a log determine the machine to which they lead from a given machine; this holds of a legal log's first entries,
-- too
abbrev pub LogsDetermineMachines : Type 0 → Type 0
LogsDetermineMachines A = (m new other : MachineValue A) (log : List (Receipt A)) → Leads m log new → Leads m log other → new ≡ other
