-- The number and the name with which a reply reports each error of a search, of a query for changes and of a query for turns.
use Rattle.std.specs.Prelude.{codes}
use Rattle.nd_time.specs.Code.{Code, coded}
use Rattle.nd_protocol.specs.Refusals as refusals
use Rattle.nd_protocol.specs.declared.refusal.Refusal.TheVariants as refusal
use Rattle.nd_replies.specs.Faults as faults
use Rattle.nd_replies.specs.declared.fault.Fault.TheVariants as fault
use Rattle.nd_history.specs.declared.fault.SearchFault.{SearchFault}
use Rattle.nd_history.specs.declared.fault.SearchFault.TheVariants.{BadRange, NoWorkers, NoSuchPoint, Memory, Missing}
use Rattle.nd_history.specs.declared.fault.ChangesFault.{ChangesFault}
use Rattle.nd_history.specs.declared.fault.ChangesFault.TheVariants as changes
use Rattle.nd_history.specs.declared.fault.TurnsFault.{TurnsFault}
use Rattle.nd_history.specs.declared.fault.TurnsFault.TheVariants as turns

-- the code of an error of a search
abbrev pub code_of_search : {A : Type 0} → SearchFault A → Code
code_of_search BadRange = coded 50 (codes "BadRange")
code_of_search NoWorkers = coded 51 (codes "NoWorkers")
code_of_search NoSuchPoint = faults.code_of fault.NoSuchPoint
code_of_search Memory = refusals.code_of refusal.Memory
code_of_search (Missing piece claimed) = coded 52 (codes "Missing")

-- the code of an error of a query for changes
abbrev pub code_of_changes : ChangesFault → Code
code_of_changes changes.NoProcessor = refusals.code_of refusal.NoProcessor
code_of_changes changes.BadRange = coded 50 (codes "BadRange")
code_of_changes changes.NoSuchPoint = faults.code_of fault.NoSuchPoint
code_of_changes changes.Memory = refusals.code_of refusal.Memory

-- the code of an error of a query for turns
abbrev pub code_of_turns : TurnsFault → Code
code_of_turns turns.BadRange = coded 50 (codes "BadRange")
code_of_turns turns.NoSuchPoint = faults.code_of fault.NoSuchPoint
code_of_turns turns.Memory = refusals.code_of refusal.Memory
