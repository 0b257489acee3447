-- The state of a script that is being read. Only private contracts use these definitions.
use Rattle.std.specs.Prelude.{◌≡◌, ℕ, ◌+◌, List, ◌++◌, length, Option, Some}
use Rattle.rewind_lines.specs.Front.{held_of}
use Rattle.rewind_lines.specs.Lines.{whole_lines_of}
use Rattle.rewind_options.specs.declared.fault.DebugFault.{DebugFault}
use Rattle.rewind_options.specs.declared.fault.DebugFault.TheVariants as fault
use Rattle.rewind_options.specs.declared.options.Options.{Options}
use Rattle.rewind_clients.specs.Intake.{Reads, limit_after, nothing}
use Rattle.rewind_clients.specs.Intakes.{intake_view}
use Rattle.rewind_clients.specs.declared.reader.Reader.{Reader}

-- `done` was read, and its complete lines were taken in
pub record StandsAt (options : Options) (done : List ℕ) (reader : Reader) : Type 0 where
  pub held : reader.lines ≡ held_of (limit_after (intake_view reader.intake)) done
  pub reads : Reads options.processors options.clients nothing 1 (whole_lines_of done) (intake_view reader.intake)
  pub same : reader.options ≡ options

-- `taken` of the input was read, and `left` more bytes may be read
pub record Going (options : Options) (limit left : ℕ) (input : List ℕ) (remaining : Option (List ℕ)) (reader : Reader) : Type 0 where
  pub taken : List ℕ
  pub rest : List ℕ
  pub whole : input ≡ taken ++ rest
  pub told : remaining ≡ Some rest
  pub count : left + length taken ≡ limit
  pub stands : StandsAt options taken reader

-- the errors of reading
abbrev pub IsOfReading : DebugFault → Type 0
IsOfReading fault.Read = Unit {0}
IsOfReading fault.TooLong = Unit {0}
IsOfReading fault.Memory = Unit {0}
IsOfReading _ = ⊥

-- the errors of a script that was read completely
abbrev pub IsOfAnswering : DebugFault → Type 0
IsOfAnswering fault.Read = ⊥
IsOfAnswering fault.TooLong = ⊥
IsOfAnswering _ = Unit {0}
