-- The errors with which a run of one client ends before its input does.
use Rattle.rewind_options.specs.declared.fault.DebugFault.{DebugFault}
use Rattle.rewind_options.specs.declared.fault.DebugFault.TheVariants.{Graph, Write, Memory}

-- the errors with which a line may end a run
abbrev pub IsOfLine : DebugFault → Type 0
IsOfLine Graph = Unit {0}
IsOfLine Memory = Unit {0}
IsOfLine _ = ⊥

-- the errors with which a line and the writing of its reply may end a run
abbrev pub IsOfRun : DebugFault → Type 0
IsOfRun Graph = Unit {0}
IsOfRun Memory = Unit {0}
IsOfRun Write = Unit {0}
IsOfRun _ = ⊥
