-- The errors of a graph, as replies report them.
use Rattle.std.specs.Prelude.{◌≡◌, ◌⊎◌, codes, Result, Ok, Err}
use Rattle.nd_time.specs.Code.{Code, coded}
use Rattle.nd_graph.specs.declared.fault.GraphFault.{GraphFault}
use Rattle.nd_graph.specs.declared.fault.GraphFault.TheVariants.{Shape, DoubleName, UnknownName, BadPort, DepthMismatch, TooLarge, Memory}

-- the number and the name of the error that rejects a graph
abbrev pub code_of : GraphFault → Code
code_of Shape = coded 40 (codes "Shape")
code_of DoubleName = coded 41 (codes "DoubleName")
code_of UnknownName = coded 42 (codes "UnknownName")
code_of BadPort = coded 43 (codes "BadPort")
code_of DepthMismatch = coded 44 (codes "DepthMismatch")
code_of TooLarge = coded 45 (codes "TooLarge")
code_of Memory = coded 47 (codes "Memory")

-- a call returns the wanted result, or runs out of memory
abbrev pub IsUnlessMemory : {X : Type 0} → Result X GraphFault → Result X GraphFault → Type 0
IsUnlessMemory wanted (Ok x) = wanted ≡ Ok x
IsUnlessMemory wanted (Err e) = (wanted ≡ Err e) ⊎ (e ≡ Memory)
