-- What is stored of a script while it is read.
use Rattle.std.specs.Prelude.{◌≡◌, ◌∷◌, ◌++◌, [], ℕ, Bool, List, length, take, nat_lt}
use Rattle.std.specs.List.{list_all}
use Rattle.rewind_lines.specs.Lines.{is_blank_byte, last_line_of, lines_of}

-- the first bytes of a line, at most `limit`, whether it has more, and whether all of it is blank
pub record Front : Type 0 where
  pub limit : ℕ
  pub bytes : List ℕ
  pub is_longer : Bool
  pub is_blank : Bool

-- what is stored of this line, which may have `limit` bytes
abbrev pub front_of : ℕ → List ℕ → Front
front_of limit line = record {
  limit = limit;
  bytes = take limit line;
  is_longer = nat_lt limit (length line);
  is_blank = list_all is_blank_byte line;
}

-- what is stored of the line that is being read, and its number
pub record Held : Type 0 where
  pub line : Front
  pub number : ℕ

-- what is stored after these bytes are read, if their last line may have `limit` bytes
abbrev pub held_of : ℕ → List ℕ → Held
held_of limit done = record { line = front_of limit (last_line_of done); number = length (lines_of done) }

-- bytes were read next: if old is stored after some input, new is stored after that input and bytes
abbrev pub ReadsOn : Held → List ℕ → Held → Type 0
ReadsOn old bytes new = (limit : ℕ) (done : List ℕ) → old ≡ held_of limit done → new ≡ held_of limit (done ++ bytes)

-- a newline was read next, and the line after it may have `limit` bytes
abbrev pub StartsNext : Held → ℕ → Held → Type 0
StartsNext old limit new = (before : ℕ) (done : List ℕ) → old ≡ held_of before done → new ≡ held_of limit (done ++ 10 ∷ [])
