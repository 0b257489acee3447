-- The shapes of a line's values, and of what is read from them.
use Rattle.std.specs.Prelude.{◌≡◌, ◌≢◌, ℕ, ℤ, Bool, true, ◌&&◌, List, [], ◌∷◌, length, map, nat_le, nat_lt, if◌then◌else◌, Option, Some, None, is_some, codes, option_map, option_and_then, Result, Ok, Err, IfErr}
use Rattle.std.specs.Option.{unwrap_or}
use Rattle.serde_json.specs.Data.{Data}
use Rattle.serde_json.specs.Find.{get}
use Rattle.serde_json.specs.View.{view}
use Rattle.nd_json.specs.Forms.{has_keys, text, list, small, integer, text_at, list_at}
use Rattle.nd_graph.specs.Draft.{every}
use Rattle.rewind_forms.specs.declared.fault.LineFault.{LineFault}
use Rattle.rewind_forms.specs.declared.fault.LineFault.TheVariants.{Memory}
use Rattle.rewind_forms.specs.declared.points.NamedTime.{NamedTime}

-- ---- combining readings

-- what `made` returns for the value, or the error if there is no value
abbrev pub given : {A B : Type 0} → LineFault → Option A → (A → Result B LineFault) → Result B LineFault
given fault None made = Err fault
given fault (Some x) made = made x

-- what `made` returns for the value that was read, or the error of its reading
abbrev pub after : {A B : Type 0} → Result A LineFault → (A → Result B LineFault) → Result B LineFault
after (Err e) made = Err e
after (Ok x) made = made x

-- what `read` returns for the value, or `other` if there is no value
abbrev pub within : {B : Type 0} → Option Data → (Data → Result B LineFault) → Result B LineFault → Result B LineFault
within None read other = other
within (Some d) read other = read d

-- the error is that of the reading, unless memory ran out
abbrev pub FailsWith : {B : Type 0} → Result B LineFault → LineFault → Type 0
FailsWith reading e = e ≢ Memory → reading ≡ Err e

-- if the reading has an error, this is it: out of memory comes only in place of a success
abbrev pub HidesNoFault : {B : Type 0} → Result B LineFault → LineFault → Type 0
HidesNoFault reading e = IfErr reading (λ f. f ≡ e)

-- ---- optional keys

-- what is read of the value, if there is one and it can be read; `Some None` if there is no value
abbrev pub if_any : {D A : Type 0} → (D → Option A) → Option D → Option (Option A)
if_any read None = Some None
if_any read (Some d) = option_map (λ x. Some x) (read d)

-- ---- lists

-- each item can be read
abbrev pub are_read : {D A : Type 0} → (D → Option A) → List D → Bool
are_read read [] = true
are_read read (d ∷ ds) = is_some (read d) && are_read read ds

-- what is read of the items; nothing if one of them cannot be read
abbrev pub all_read : {D A : Type 0} → (D → Option A) → List D → List A
all_read read ds = unwrap_or (every read ds) []

-- ---- values

-- the numbers of a time: at least one
abbrev pub numbers_of : List Data → Option (List ℕ)
numbers_of [] = None
numbers_of (d ∷ ds) = every small (d ∷ ds)

-- the numbers of the time that a value is
unfoldable pub time_in : Data → Option (List ℕ)
time_in d = option_and_then numbers_of (list d)

-- the numbers of the time at the key
unfoldable pub numbers_at : List ℕ → Data → Option (List ℕ)
numbers_at key d = option_and_then numbers_of (list_at key d)

-- the two items of a list of two
abbrev pub pair_of : List Data → Option (Data × Data)
pair_of [] = None
pair_of (a ∷ []) = None
pair_of (a ∷ b ∷ []) = Some (a, b)
pair_of (a ∷ b ∷ c ∷ ds) = None

-- the name and the numbers that the code read
abbrev pub name_and_numbers : NamedTime → List ℕ × List ℕ
name_and_numbers n = (n.name.now, all_read small (map view n.numbers.now))

-- a name and the numbers of a time
unfoldable pub named_time : Data × Data → Option (List ℕ × List ℕ)
named_time p = option_and_then (λ name. option_map (λ numbers. (name, numbers)) (option_and_then numbers_of (list p.1))) (text p.0)

-- the pointstamp that these items describe: its name and its numbers
unfoldable pub point_of : List Data → Option (List ℕ × List ℕ)
point_of ds = option_and_then named_time (pair_of ds)

-- the pointstamp at the key
unfoldable pub point_at : List ℕ → Data → Option (List ℕ × List ℕ)
point_at key d = option_and_then point_of (list_at key d)

-- the pointstamp that a value describes
unfoldable pub listed_point : Data → Option (List ℕ × List ℕ)
listed_point d = option_and_then point_of (list d)

-- the values in the list at the key
unfoldable pub values_at : List ℕ → Data → Option (List ℤ)
values_at key d = option_and_then (every integer) (list_at key d)

-- the list has at least one item, and at most `most`
abbrev pub are_few : ℕ → List Data → Bool
are_few most ds = nat_lt 0 (length ds) && nat_le (length ds) most

-- the numbers of some processors, at most `most`
abbrev pub processors_of : ℕ → List Data → Option (List ℕ)
processors_of most ds = if are_few most ds then every small ds else None

-- the processors that a value lists, at most `most`
unfoldable pub processors_in : ℕ → Data → Option (List ℕ)
processors_in most d = option_and_then (processors_of most) (list d)

-- the name at the key, and the numbers of the time at the key "time"
unfoldable pub named_at : List ℕ → Data → Option (List ℕ × List ℕ)
named_at key d = option_and_then (λ name. option_map (λ numbers. (name, numbers)) (numbers_at (codes "time") d)) (text_at key d)

-- ---- objects

-- the value at the only key of an object
unfoldable pub alone : List ℕ → Data → Option Data
alone key d = if has_keys (key ∷ []) d then get key d else None

-- the object with exactly these keys at the only key of an object
unfoldable pub inner : List ℕ → List (List ℕ) → Data → Option Data
inner key keys d = option_and_then (λ x. if has_keys (key ∷ []) d && has_keys keys x then Some x else None) (get key d)
