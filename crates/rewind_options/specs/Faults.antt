-- The errors with which a run ends.
use Rattle.std.specs.Prelude.{ℕ, Bool, true, false, Result, Ok, Err}
use Rattle.rewind_options.specs.declared.fault.DebugFault.{DebugFault}
use Rattle.rewind_options.specs.declared.fault.DebugFault.TheVariants.{Graph, Script, Read, Write, TooLong, Memory, Close}

-- the run ended because a read failed
abbrev pub is_read_fault : {A : Type 0} → Result A DebugFault → Bool
is_read_fault (Err Read) = true
is_read_fault _ = false

-- the run ended because a write failed
abbrev pub is_write_fault : {A : Type 0} → Result A DebugFault → Bool
is_write_fault (Err Write) = true
is_write_fault _ = false

-- the exit status of a program whose run ended with this error
abbrev pub status_of : DebugFault → ℕ
status_of Graph = 2
status_of Script = 2
status_of Read = 3
status_of Write = 3
status_of TooLong = 3
status_of Memory = 4
status_of Close = 5
