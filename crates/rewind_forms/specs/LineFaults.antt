-- The number and the name of each error of a line.
use Rattle.std.specs.Prelude.{codes}
use Rattle.nd_time.specs.Code.{Code, coded}
use Rattle.rewind_forms.specs.declared.fault.LineFault.{LineFault}
use Rattle.rewind_forms.specs.declared.fault.LineFault.TheVariants.{LineTooLong, BadLine, BadShape, UnknownName, BadTime, Memory}

-- the number and the name with which a line is rejected
abbrev pub code_of : LineFault → Code
code_of BadLine = coded 30 (codes "BadLine")
code_of BadShape = coded 31 (codes "BadShape")
code_of UnknownName = coded 32 (codes "UnknownName")
code_of LineTooLong = coded 33 (codes "LineTooLong")
code_of BadTime = coded 34 (codes "BadTime")
code_of Memory = coded 29 (codes "Memory")
