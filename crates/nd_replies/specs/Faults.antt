-- The number and the name with which a reply reports each error of a command.
use Rattle.std.specs.Prelude.{codes}
use Rattle.nd_time.specs.Code.{Code, coded}
use Rattle.nd_protocol.specs.Refusals as refusals
use Rattle.nd_protocol.specs.declared.refusal.Refusal.TheVariants as refusal
use Rattle.nd_replies.specs.declared.fault.Fault.{Fault}
use Rattle.nd_replies.specs.declared.fault.Fault.TheVariants.{Step, Memory, AtStart, AtEnd, NoSuchPoint, TimelineFull, TooManyBreaks, NoBreak}

-- the number and the name with which a command is refused
abbrev pub code_of : Fault → Code
code_of (Step r) = refusals.code_of r
code_of (Memory at) = refusals.code_of refusal.Memory
code_of AtStart = coded 20 (codes "AtStart")
code_of AtEnd = coded 21 (codes "AtEnd")
code_of NoSuchPoint = coded 22 (codes "NoSuchPoint")
code_of TimelineFull = coded 23 (codes "TimelineFull")
code_of TooManyBreaks = coded 24 (codes "TooManyBreaks")
code_of NoBreak = coded 25 (codes "NoBreak")
