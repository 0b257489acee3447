-- The condition that a line names: before the fourth version an atom; from then on a literal, or all or any of several literals.
use Rattle.std.specs.Prelude.{◌≡◌, ◌<◌, List, [], ◌∷◌, ◌++◌, if◌then◌else◌, length, nat_le, codes, Option, Some, None, Result, Ok, Err, IfOk, IfSome}
use Rattle.serde_json.specs.Data.{Data}
use Rattle.nd_json.specs.Forms.{list}
use Rattle.nd_time.specs.Limits.{max_literals}
use Rattle.nd_graph.specs.Graph.{Dataflow}
use Rattle.nd_breaks.specs.Conditions.{ConditionValue, condition_of as of_literal}
use Rattle.nd_breaks.specs.declared.condition.Literal.{Literal}
use Rattle.nd_breaks.specs.declared.condition.Literal.TheVariants.{Is, Not}
use Rattle.nd_breaks.specs.declared.condition.Quantifier.{Quantifier}
use Rattle.nd_breaks.specs.declared.condition.Quantifier.TheVariants.{All, Any}
use Rattle.rewind_forms.specs.Forms.{given, after, within, are_few, alone}
use Rattle.rewind_forms.specs.Atoms.{first_atom_of, atom_of}
use Rattle.rewind_forms.specs.LineFaults.{code_of}
use Rattle.rewind_forms.specs.Versions.{includes}
use Rattle.rewind_forms.specs.declared.version.Version.{Version}
use Rattle.rewind_forms.specs.declared.version.Version.TheVariants.{Fourth}
use Rattle.rewind_forms.specs.declared.fault.LineFault.{LineFault}
use Rattle.rewind_forms.specs.declared.fault.LineFault.TheVariants.{BadShape}

-- an atom, or {"not":atom}
unfoldable pub literal_of : Version → Dataflow → Data → Result Literal LineFault
literal_of v g d =
    within (alone (codes "not") d) (λ shown. after (atom_of v g shown) (λ atom. Ok (Not atom)))
    (after (atom_of v g d) (λ atom. Ok (Is atom)))

-- ---- several literals

-- the error with the lesser number: a bad shape comes before an unknown name, and that before a bad time
unfoldable pub lesser : LineFault → LineFault → LineFault
lesser e f = if nat_le (code_of e).number (code_of f).number then e else f

-- a literal followed by the others, or the error with the least number
abbrev pub beside : Result Literal LineFault → Result (List Literal) LineFault → Result (List Literal) LineFault
beside (Ok l) (Ok ls) = Ok (l ∷ ls)
beside (Ok l) (Err f) = Err f
beside (Err e) (Ok ls) = Err e
beside (Err e) (Err f) = Err (lesser e f)

-- the literals that these values are, or the error with the least number
abbrev pub literals_of : Version → Dataflow → List Data → Result (List Literal) LineFault
literals_of v g [] = Ok []
literals_of v g (d ∷ ds) = beside (literal_of v g d) (literals_of v g ds)

-- all or any of the literals of a list, which has 1 to max_literals items
unfoldable pub several_of : Version → Dataflow → Quantifier → Data → Result ConditionValue LineFault
several_of v g quantifier d =
    given BadShape (list d) (λ ds.
    if are_few max_literals ds then after (literals_of v g ds) (λ literals. Ok (record { quantifier = quantifier; literals = literals }))
    else Err BadShape)

-- ---- one by one

-- the first literals of a list that were read, or their error
abbrev pub literals_read : Result (Option ConditionValue) LineFault → Result (List Literal) LineFault
literals_read (Ok None) = Ok []
literals_read (Ok (Some c)) = Ok c.literals
literals_read (Err e) = Err e

-- the reading with one more literal
abbrev pub with_literal : Result (List Literal) LineFault → Literal → Result (List Literal) LineFault
with_literal (Ok ls) l = Ok (ls ++ l ∷ [])
with_literal (Err e) l = Err e

-- the reading after one more faulty literal
abbrev pub with_fault : Result (List Literal) LineFault → LineFault → LineFault
with_fault (Ok ls) f = f
with_fault (Err e) f = lesser e f

-- the condition that was read has room for one more literal
abbrev pub HasRoom : Result (Option ConditionValue) LineFault → Type 0
HasRoom read = IfOk (literals_read read) (λ literals. length literals < max_literals)

-- the condition that was read, if any, has this quantifier
abbrev pub IsOf : Quantifier → Result (Option ConditionValue) LineFault → Type 0
IsOf quantifier read = IfOk read (λ o. IfSome o (λ c. c.quantifier ≡ quantifier))

-- the condition has this quantifier, and its literals are those of the reading
abbrev pub MakeUp : Quantifier → Result (List Literal) LineFault → ConditionValue → Type 0
MakeUp quantifier reading c = (reading ≡ Ok c.literals) × (c.quantifier ≡ quantifier)

-- ---- conditions

-- a literal, {"all":[literal,...]} or {"any":[literal,...]}
unfoldable pub combined_of : Version → Dataflow → Data → Result ConditionValue LineFault
combined_of v g d =
    within (alone (codes "all") d) (several_of v g All)
    (within (alone (codes "any") d) (several_of v g Any)
    (after (literal_of v g d) (λ literal. Ok (of_literal All literal))))

-- the condition that a value describes in a script of this version
unfoldable pub condition_of : Version → Dataflow → Data → Result ConditionValue LineFault
condition_of v g d =
    if includes v Fourth then combined_of v g d
    else after (first_atom_of g d) (λ atom. Ok (of_literal All (Is atom)))
