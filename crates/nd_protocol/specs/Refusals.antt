-- The number and the name with which a reply reports each refusal.
use Rattle.std.specs.Prelude.{ℕ, codes}
use Rattle.nd_time.specs.Code.{Code, coded}
use Rattle.nd_protocol.specs.declared.refusal.Refusal.{Refusal}
use Rattle.nd_protocol.specs.declared.refusal.Refusal.TheVariants.{NoProcessor, NoVertex, NoEdge, NotInput, InputClosed, TooManyValues, EpochFull, NoRecord, NoRequest, NotYet, CounterFull, ValueRange, CountFull, DeltaFull, NothingToSend, NotAdmissible, QueueEmpty, QueueFull, NotNotified, NotLater, NoPort, TooEarly, Memory}

-- the number and the name of a refusal
abbrev pub code_of : Refusal → Code
code_of NoProcessor = coded 1 (codes "NoProcessor")
code_of NoVertex = coded 2 (codes "NoVertex")
code_of NoEdge = coded 3 (codes "NoEdge")
code_of NotInput = coded 4 (codes "NotInput")
code_of InputClosed = coded 5 (codes "InputClosed")
code_of TooManyValues = coded 6 (codes "TooManyValues")
code_of EpochFull = coded 7 (codes "EpochFull")
code_of NoRecord = coded 8 (codes "NoRecord")
code_of NoRequest = coded 9 (codes "NoRequest")
code_of (NotYet blocker) = coded 10 (codes "NotYet")
code_of CounterFull = coded 11 (codes "CounterFull")
code_of ValueRange = coded 12 (codes "ValueRange")
code_of CountFull = coded 13 (codes "CountFull")
code_of DeltaFull = coded 14 (codes "DeltaFull")
code_of NothingToSend = coded 15 (codes "NothingToSend")
code_of (NotAdmissible point) = coded 16 (codes "NotAdmissible")
code_of QueueEmpty = coded 17 (codes "QueueEmpty")
code_of QueueFull = coded 18 (codes "QueueFull")
code_of NotNotified = coded 53 (codes "NotNotified")
code_of NotLater = coded 54 (codes "NotLater")
code_of NoPort = coded 55 (codes "NoPort")
code_of TooEarly = coded 56 (codes "TooEarly")
code_of Memory = coded 19 (codes "Memory")

-- the number of a refusal; refusals are tested in the order of their numbers
abbrev pub number_of : Refusal → ℕ
number_of r = (code_of r).number
