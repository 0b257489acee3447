-- How a run of several clients ends, and what it writes.
use Rattle.std.specs.Prelude.{◌≡◌, ℕ, ◌+◌, ◌<◌, ◌≤◌, List, [], ◌∷◌, ◌++◌, length, drop, Option, Some, Result, Ok, Err}
use Rattle.serde_json.specs.Data.{Data}
use Rattle.rewind_lines.specs.Lines.{lines_of}
use Rattle.rewind_lines.specs.Texts.{text_of}
use Rattle.rewind_options.specs.declared.fault.DebugFault.{DebugFault}
use Rattle.rewind_options.specs.declared.fault.DebugFault.TheVariants as fault
use Rattle.rewind_clients.specs.Intake.{Intake, Reads, nothing, opened, refused_graph, faulty_line, script}
use Rattle.rewind_sessions.specs.Runs.{AreLines}
use Rattle.rewind_sessions.specs.Written.{WroteFront, WroteLines}

-- the reader had `input` and has `left`: everything was read, at most `limit` bytes, and `intake` is the result of reading the
-- lines
pub record ReadWhole (processors clients limit : ℕ) (input : List ℕ) (left : Option (List ℕ)) (intake : Intake) : Type 0 where
  pub reads : Reads processors clients nothing 1 (lines_of input) intake
  pub within : length input ≤ limit
  pub ended : left ≡ Some []

-- the reader had `input` and has `left`, and some of it was read
pub record ReadPart (limit : ℕ) (input : List ℕ) (left : Option (List ℕ)) : Type 0 where
  pub taken : List ℕ
  pub rest : List ℕ
  pub split : input ≡ taken ++ rest
  pub told : left ≡ Some rest
  pub within : length taken ≤ limit + 1

-- the replies that are written for an intake: for a version line, a refused graph or a faulty line only its reply; for a script
-- all of them
abbrev pub Replies : Intake → List Data → Type 0
Replies nothing replies = replies ≡ []
Replies (opened version reply) replies = replies ≡ reply ∷ []
Replies (refused_graph reply) replies = replies ≡ reply ∷ []
Replies (faulty_line reply) replies = replies ≡ reply ∷ []
Replies (script version opening machine commands) replies = (lines : List Data) × AreLines machine.machine commands lines × (replies ≡ opening ++ lines)

-- the run succeeds with this intake; `IsRefused` and `IsFaulty` are those that end it with Graph and with Script
abbrev pub EndsWell : Intake → Type 0
EndsWell (refused_graph reply) = ⊥
EndsWell (faulty_line reply) = ⊥
EndsWell _ = Unit {0}

abbrev pub IsRefused : Intake → Type 0
IsRefused (refused_graph reply) = Unit {0}
IsRefused _ = ⊥

abbrev pub IsFaulty : Intake → Type 0
IsFaulty (faulty_line reply) = Unit {0}
IsFaulty _ = ⊥

-- how reading fails before everything was read
abbrev pub ReadFails : ℕ → List ℕ → Option (List ℕ) → DebugFault → Type 0
ReadFails limit input left fault.Read = ReadPart limit input left
ReadFails limit input left fault.Memory = ReadPart limit input left
ReadFails limit input left fault.TooLong = (limit < length input) × (left ≡ Some (drop (limit + 1) input))
ReadFails limit input left _ = ⊥

-- the writer held `before` and holds `after`: all replies were written
abbrev pub WroteAll : Intake → List ℕ → Option (List ℕ) → Type 0
WroteAll intake before after = (replies : List Data) × Replies intake replies × (after ≡ Some (before ++ text_of replies))

-- the replies to the version line and to the graph's line were written, and no others
abbrev pub WroteOpening : Intake → List ℕ → Option (List ℕ) → Type 0
WroteOpening (script version opening machine commands) before after = after ≡ Some (before ++ text_of opening)
WroteOpening _ before after = ⊥

-- what is written for a script that was read, and how the run ends; a log that does not match is never shown
abbrev pub Writes : Intake → List ℕ → Option (List ℕ) → Result (Unit {0}) DebugFault → Type 0
Writes intake before after (Ok done) = EndsWell intake × WroteAll intake before after
Writes intake before after (Err fault.Graph) = IsRefused intake × WroteAll intake before after
Writes intake before after (Err fault.Script) = IsFaulty intake × WroteAll intake before after
Writes intake before after (Err fault.Write) = (replies : List Data) × Replies intake replies × WroteFront replies before after
Writes intake before after (Err fault.Memory) = (replies : List Data) × Replies intake replies × WroteLines replies before after
Writes intake before after (Err fault.Close) = WroteOpening intake before after
Writes intake before after _ = ⊥

-- How a run of several clients ends. The reader had `input` and has `left`; the writer held `before` and holds `after`.
pub data Ends (processors clients limit : ℕ) (input : List ℕ) (left : Option (List ℕ)) (before : List ℕ) (after : Option (List ℕ)) (result : Result (Unit {0}) DebugFault) : Type 0 where
  unread : (e : DebugFault) → result ≡ Err e → ReadFails limit input left e → after ≡ Some before → Ends processors clients limit input left before after result
  answered : (intake : Intake) → ReadWhole processors clients limit input left intake → Writes intake before after result
      → Ends processors clients limit input left before after result

-- how many bytes a run takes from a reader, whether or not the reader says what it has left: at most the limit, and one byte more
-- if the script is longer
abbrev pub Takes : {A : Type 0} → ℕ → Result A DebugFault → ℕ → Type 0
Takes limit (Err fault.TooLong) taken = taken ≡ limit + 1
Takes limit _ taken = taken ≤ limit
