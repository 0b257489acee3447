-- The replies of a run of a script, and how the run ends.
use Rattle.std.specs.Prelude.{◌≡◌, ◌≢◌, ℕ, ◌+◌, ◌<◌, ◌≤◌, List, [], ◌∷◌, ◌++◌, length, take, drop, Option, Some, Result, Ok, Err}
use Rattle.serde_json.specs.Data.{Data}
use Rattle.rewind_lines.specs.Lines.{reading_of, lines_of, whole_lines_of}
use Rattle.rewind_lines.specs.Texts.{text_of}
use Rattle.rewind_answers.specs.Answers.{Answers, Phase, limit_in, refused, unopened}
use Rattle.rewind_options.specs.declared.fault.DebugFault.{DebugFault}
use Rattle.rewind_options.specs.declared.fault.DebugFault.TheVariants as fault

-- these may be the replies to these lines, the first of which has this number
unfoldable pub Run : Phase → ℕ → List (List ℕ) → List Data → Phase → Type 0
Run old number [] replies new = (replies ≡ []) × (new ≡ old)
Run old number (line ∷ lines) replies new =
    (first : List Data) × (mid : Phase) × (more : List Data) × Answers old number (reading_of (limit_in old) line) first mid
    × Run mid (number + 1) lines more new × (replies ≡ first ++ more)

-- a complete run from its first line, on this number of processors
abbrev pub Replies : ℕ → List (List ℕ) → List Data → Phase → Type 0
Replies processors lines replies new = Run (unopened processors) 1 lines replies new

-- The writer held `before` and holds `after`: the replies to these lines were written, and the run may continue.
pub record RepliedTo (processors : ℕ) (lines : List (List ℕ)) (before : List ℕ) (after : Option (List ℕ)) : Type 0 where
  pub replies : List Data
  pub phase : Phase
  pub run : Replies processors lines replies phase
  pub goes_on : phase ≢ refused
  pub written : after ≡ Some (before ++ text_of replies)

-- The replies to these lines were written, and the last of them refused the graph.
pub record RefusedAt (processors : ℕ) (lines : List (List ℕ)) (before : List ℕ) (after : Option (List ℕ)) : Type 0 where
  pub replies : List Data
  pub run : Replies processors lines replies refused
  pub written : after ≡ Some (before ++ text_of replies)

-- The first bytes of the text of the replies to these lines were written.
pub record WroteFront (processors : ℕ) (lines : List (List ℕ)) (before : List ℕ) (after : Option (List ℕ)) : Type 0 where
  pub replies : List Data
  pub phase : Phase
  pub run : Replies processors lines replies phase
  pub sent : ℕ
  pub written : after ≡ Some (before ++ take sent (text_of replies))

-- The reader had `input` and has `left`: everything was read, at most `limit` bytes, and every line was answered, with n replies
-- in all.
pub record RanWhole (processors limit : ℕ) (input : List ℕ) (left : Option (List ℕ)) (before : List ℕ) (after : Option (List ℕ)) (n : ℕ) : Type 0 where
  pub replied : RepliedTo processors (lines_of input) before after
  pub count : n ≡ length replied.replies
  pub within : length input ≤ limit
  pub ended : left ≡ Some []

-- The reader had `input` and has `left`: a read failed, and each complete line of what was read before was answered.
pub record StoppedReading (processors limit : ℕ) (input : List ℕ) (left : Option (List ℕ)) (before : List ℕ) (after : Option (List ℕ)) : Type 0 where
  pub taken : List ℕ
  pub rest : List ℕ
  pub whole : input ≡ taken ++ rest
  pub told : left ≡ Some rest
  pub within : length taken ≤ limit
  pub replied : RepliedTo processors (whole_lines_of taken) before after

-- The input is longer than the limit, which one byte more has shown; each line that is complete within the limit was answered.
pub record PassedLimit (processors limit : ℕ) (input : List ℕ) (left : Option (List ℕ)) (before : List ℕ) (after : Option (List ℕ)) : Type 0 where
  pub longer : limit < length input
  pub told : left ≡ Some (drop (limit + 1) input)
  pub replied : RepliedTo processors (whole_lines_of (take limit input)) before after

-- The lines that can be answered after `taken` was read and `rest` is left: those that end with a newline within the limit, and
-- at the end of the input the last one too.
pub data AreRead (limit : ℕ) (taken rest : List ℕ) (lines : List (List ℕ)) : Type 0 where
  ended : (count : ℕ) → lines ≡ take count (whole_lines_of (take limit taken)) → AreRead limit taken rest lines
  last : (count : ℕ) → rest ≡ [] → length taken ≤ limit → lines ≡ take count (lines_of taken) → AreRead limit taken rest lines

-- The reader had `input` and has `left`: the run stopped after `taken` was read, at most one byte past the limit, and these of
-- its lines were answered.
pub record StoppedAt (limit : ℕ) (input : List ℕ) (left : Option (List ℕ)) : Type 0 where
  pub taken : List ℕ
  pub rest : List ℕ
  pub lines : List (List ℕ)
  pub split : input ≡ taken ++ rest
  pub told : left ≡ Some rest
  pub within : length taken ≤ limit + 1
  pub are_read : AreRead limit taken rest lines

-- How a run of one client ends. The reader had `input` and has `left`; the writer held `before` and holds `after`.
abbrev pub Ends : ℕ → ℕ → List ℕ → Option (List ℕ) → List ℕ → Option (List ℕ) → Result ℕ DebugFault → Type 0
Ends processors limit input left before after (Ok n) = RanWhole processors limit input left before after n
Ends processors limit input left before after (Err fault.Graph) = (s : StoppedAt limit input left) × RefusedAt processors s.lines before after
Ends processors limit input left before after (Err fault.Read) = StoppedReading processors limit input left before after
Ends processors limit input left before after (Err fault.TooLong) = PassedLimit processors limit input left before after
Ends processors limit input left before after (Err fault.Memory) = (s : StoppedAt limit input left) × RepliedTo processors s.lines before after
Ends processors limit input left before after (Err fault.Write) = (s : StoppedAt limit input left) × WroteFront processors s.lines before after
Ends processors limit input left before after _ = ⊥

-- How many bytes a run takes from a reader, whether or not the reader says what it has left; one byte past the limit only to see
-- that the input is longer.
abbrev pub Takes : ℕ → Result ℕ DebugFault → ℕ → Type 0
Takes limit (Ok n) taken = taken ≤ limit
Takes limit (Err fault.Graph) taken = taken ≤ limit + 1
Takes limit (Err fault.Read) taken = taken ≤ limit
Takes limit (Err fault.TooLong) taken = taken ≡ limit + 1
Takes limit (Err fault.Memory) taken = taken ≤ limit + 1
Takes limit (Err fault.Write) taken = taken ≤ limit + 1
Takes limit (Err fault.Script) taken = ⊥
Takes limit (Err fault.Close) taken = ⊥
