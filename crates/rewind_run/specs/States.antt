-- What a run in progress has read, answered and written. Only private contracts use these definitions.
use Rattle.std.specs.Prelude.{◌≡◌, ◌≢◌, ℕ, ◌+◌, ◌<◌, ◌≤◌, List, [], ◌++◌, length, take, Option, Some}
use Rattle.serde_json.specs.Data.{Data}
use Rattle.rewind_lines.specs.Front.{held_of}
use Rattle.rewind_lines.specs.Lines.{Reading, whole_lines_of}
use Rattle.rewind_lines.specs.Texts.{text_of}
use Rattle.rewind_answers.specs.Answers.{Answers, Phase, limit_in, refused}
use Rattle.rewind_run.specs.Script.{RefusedAt, RepliedTo, Replies, WroteFront}
use Rattle.rewind_answers.specs.Stages.{phase_of}
use Rattle.rewind_options.specs.declared.fault.DebugFault.{DebugFault}
use Rattle.rewind_options.specs.declared.fault.DebugFault.TheVariants as fault
use Rattle.rewind_run.specs.declared.run.Run.{Run}

-- the replies to a line were appended to what waited, and `count` is their number
pub record Gathers (old : Phase) (number : ℕ) (reading : Reading) (waited waits : List ℕ) (count : ℕ) (new : Phase) : Type 0 where
  pub replies : List Data
  pub answers : Answers old number reading replies new
  pub gathered : waits ≡ waited ++ text_of replies
  pub is_count : count ≡ length replies

-- the reply to one line, or none, was appended to what waited
pub record AddsOne (waited waits : List ℕ) : Type 0 where
  pub last : List Data
  pub at_most_one : length last ≤ 1
  pub text : waits ≡ waited ++ text_of last

-- fewer than 65,536 bytes wait, followed by at most one reply
pub record WaitsFew (waits : List ℕ) : Type 0 where
  pub before : List ℕ
  pub few : length before < 65536
  pub more : AddsOne before waits

-- `done` was read, and the replies to its complete lines are `sent`, followed by those that wait
pub record Stands (processors : ℕ) (done sent : List ℕ) (run : Run) : Type 0 where
  pub replies : List Data
  pub held : run.lines ≡ held_of (limit_in (phase_of run.stage)) done
  pub ran : Replies processors (whole_lines_of done) replies (phase_of run.stage)
  pub text : text_of replies ≡ sent ++ run.outbox
  pub replied : run.replied ≡ length replies

-- a run whose graph was refused, or for which memory ran out
abbrev pub StopsIn : DebugFault → Phase → Type 0
StopsIn fault.Graph phase = phase ≡ refused
StopsIn fault.Memory phase = phase ≢ refused
StopsIn _ phase = ⊥

-- a run stopped at one of these lines; the replies are `sent`, followed by those that wait
pub record Stopped (processors : ℕ) (lines : List (List ℕ)) (sent : List ℕ) (run : Run) (e : DebugFault) : Type 0 where
  pub count : ℕ
  pub replies : List Data
  pub phase : Phase
  pub ran : Replies processors (take count lines) replies phase
  pub stops : StopsIn e phase
  pub text : text_of replies ≡ sent ++ run.outbox

-- `new` is the run `old` after these bytes were read and the lines that end in them were answered
abbrev pub ReadsOn : Run → List ℕ → Run → Type 0
ReadsOn old bytes new = (processors : ℕ) (done sent : List ℕ) → Stands processors done sent old → Stands processors (done ++ bytes) sent new

-- a run stopped at one of the lines of what was read
abbrev pub StopsAmong : (List ℕ → List (List ℕ)) → Run → Run → DebugFault → Type 0
StopsAmong lines old new e = (processors : ℕ) (done sent : List ℕ) → Stands processors done sent old → Stopped processors (lines done) sent new e

-- `done` was read, no reply waits, and the writer held `before` and holds `after`
pub record Answered (processors : ℕ) (done before : List ℕ) (after : Option (List ℕ)) (run : Run) : Type 0 where
  pub sent : List ℕ
  pub stands : Stands processors done sent run
  pub written : after ≡ Some (before ++ sent)
  pub none_waits : run.outbox ≡ []

-- a run of these lines ended with an error
unfoldable pub Faulted : ℕ → List (List ℕ) → List ℕ → Option (List ℕ) → DebugFault → Type 0
Faulted processors lines before after fault.Graph = RefusedAt processors lines before after
Faulted processors lines before after fault.Memory = RepliedTo processors lines before after
Faulted processors lines before after fault.Write = WroteFront processors lines before after
Faulted processors lines before after _ = ⊥

-- the run ended with an error at one of these lines
unfoldable pub EndsEarly : ℕ → List (List ℕ) → List ℕ → Option (List ℕ) → DebugFault → Type 0
EndsEarly processors lines before after e = (count : ℕ) × Faulted processors (take count lines) before after e

-- the same for a run whose writer held `held` before these bytes and holds `holds` after them
abbrev pub AnswersOn : Run → Option (List ℕ) → List ℕ → Run → Option (List ℕ) → Type 0
AnswersOn old held bytes new holds =
    (processors : ℕ) (done before : List ℕ) → Answered processors done before held old → Answered processors (done ++ bytes) before holds new

-- a run ended at one of the lines of what was read
abbrev pub EndsAmong : (List ℕ → List (List ℕ)) → Run → Option (List ℕ) → Option (List ℕ) → DebugFault → Type 0
EndsAmong lines old held holds e =
    (processors : ℕ) (done before : List ℕ) → Answered processors done before held old → EndsEarly processors (lines done) before holds e

-- `taken` of the input was read and answered, and `left` more bytes may be read
pub record Going (processors limit left : ℕ) (input before : List ℕ) (remaining contents : Option (List ℕ)) (run : Run) : Type 0 where
  pub taken : List ℕ
  pub rest : List ℕ
  pub whole : input ≡ taken ++ rest
  pub told : remaining ≡ Some rest
  pub count : left + length taken ≡ limit
  pub answered : Answered processors taken before contents run
