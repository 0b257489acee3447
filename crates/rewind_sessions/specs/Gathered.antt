-- Replies that are gathered before they are written.
use Rattle.std.specs.Prelude.{◌≡◌, ℕ, List, [], ◌∷◌, ◌++◌, Option, Some}
use Rattle.serde_json.specs.Data.{Data}
use Rattle.rewind_lines.specs.Known.{Known}
use Rattle.rewind_lines.specs.Texts.{text_of}
use Rattle.rewind_sessions.specs.Written.{WroteFront, WroteLines, front-more, lines-more}
use Rattle.rewind_options.specs.declared.fault.DebugFault.{DebugFault}
use Rattle.rewind_options.specs.declared.fault.DebugFault.TheVariants as fault

-- The writer held `before` and holds `after`: the first of these replies were written, and the text of the others waits.
pub record Gathered (replies : List Data) (waiting before : List ℕ) (after : Option (List ℕ)) : Type 0 where
  pub sent : List Data
  pub kept : List Data
  pub split : replies ≡ sent ++ kept
  pub waits : waiting ≡ text_of kept
  pub written : after ≡ Some (before ++ text_of sent)

-- how gathering one more reply after others fails: out of memory, and it is not gathered; or a write failed
abbrev pub GatherFails : List Data → Data → List ℕ → List ℕ → Option (List ℕ) → DebugFault → Type 0
GatherFails replies reply waiting before after fault.Memory = Gathered replies waiting before after
GatherFails replies reply waiting before after fault.Write = WroteFront (replies ++ reply ∷ []) before after
GatherFails replies reply waiting before after _ = ⊥

-- these replies are gathered after those before: `waited` and `held` become `waits` and `holds`
abbrev pub GathersMore : List Data → List ℕ → Option (List ℕ) → List ℕ → Option (List ℕ) → Type 0
GathersMore more waited held waits holds =
    (replies : List Data) (before : List ℕ) → Gathered replies waited before held → Gathered (replies ++ more) waits before holds

-- the errors of gathering
abbrev pub IsOfWriting : DebugFault → Type 0
IsOfWriting fault.Memory = Unit {0}
IsOfWriting fault.Write = Unit {0}
IsOfWriting _ = ⊥

-- how gathering these replies ends early: out of memory, after some of their lines were written; or a write failed
abbrev pub StopsIn : List Data → List ℕ → Option (List ℕ) → DebugFault → Type 0
StopsIn replies before after fault.Memory = WroteLines replies before after
StopsIn replies before after fault.Write = WroteFront replies before after
StopsIn replies before after _ = ⊥

-- it ends early among some replies, so it ends early among more
pub stops-more : (xs ys : List Data) (before : List ℕ) (after : Known) (e : DebugFault) → StopsIn xs before after e → StopsIn (xs ++ ys) before after e
stops-more xs ys before after fault.Memory h = lines-more xs ys before after h
stops-more xs ys before after fault.Write h = front-more xs ys before after h
stops-more xs ys before after fault.Graph h = h
stops-more xs ys before after fault.Script h = h
stops-more xs ys before after fault.Read h = h
stops-more xs ys before after fault.TooLong h = h
stops-more xs ys before after fault.Close h = h

-- gathering these replies after those before ends early
abbrev pub StopsAmong : List Data → List ℕ → Option (List ℕ) → Option (List ℕ) → DebugFault → Type 0
StopsAmong more waited held holds e =
    (replies : List Data) (before : List ℕ) → Gathered replies waited before held → StopsIn (replies ++ more) before holds e

-- the replies are written after what the writer held
abbrev pub WritesAll : List Data → Option (List ℕ) → Option (List ℕ) → Type 0
WritesAll replies held holds = (before : List ℕ) → held ≡ Some before → holds ≡ Some (before ++ text_of replies)

-- writing them ends early
abbrev pub WritingStops : List Data → Option (List ℕ) → Option (List ℕ) → DebugFault → Type 0
WritingStops replies held holds e = (before : List ℕ) → held ≡ Some before → StopsIn replies before holds e
