-- The lines of a script.
use Rattle.std.specs.Prelude.{◌≡◌, ℕ, ◌-◌, ◌<◌, ◌≤◌, ◌==◌, ◌||◌, Bool, false, List, [], ◌∷◌, ◌++◌, length, take, if◌then◌else◌, nat_lt, slice_index_or, Option, Some, None}
use Rattle.std.specs.List.{slice_split, list_all, list_any}
use Rattle.std.specs.Str.{is_utf8}
use Rattle.serde_json.specs.Data.{Data}
use Rattle.serde_json.specs.Read.{read}

abbrev pub is_newline : ℕ → Bool
is_newline b = b == 10

-- whether there is a newline among these bytes
abbrev pub has_newline : List ℕ → Bool
has_newline bytes = list_any is_newline bytes

-- the first n of these bytes are the rest of a line and its newline
pub record EndsLine (bytes : List ℕ) (n : ℕ) (rest : List ℕ) : Type 0 where
  pub some : 0 < n
  pub within : n ≤ length bytes
  pub split : take n bytes ≡ rest ++ 10 ∷ []
  pub one_line : has_newline rest ≡ false

-- the input divided at its newlines; the last part is what follows the last newline
unfoldable pub lines_of : List ℕ → List (List ℕ)
lines_of input = slice_split is_newline input

-- the lines that end with a newline
unfoldable pub whole_lines_of : List ℕ → List (List ℕ)
whole_lines_of input = take (length (lines_of input) - 1) (lines_of input)

-- the line after the last newline
unfoldable pub last_line_of : List ℕ → List ℕ
last_line_of input = slice_index_or (lines_of input) (length (lines_of input) - 1) []

-- a space, a tab or a carriage return
abbrev pub is_blank_byte : ℕ → Bool
is_blank_byte b = b == 32 || (b == 9 || b == 13)

-- the JSON value of a line, or None if the line is not JSON
unfoldable pub json_of : List ℕ → Option Data
json_of line = if is_utf8 line then read line else None

-- what a line contains
pub data Reading : Type 0 where
  blank : Reading
  too_long : Reading
  no_json : Reading
  json : Data → Reading

-- what a line contains that is neither blank nor too long
abbrev pub json_or_none : Option Data → Reading
json_or_none None = no_json
json_or_none (Some d) = json d

-- a line of any length can be blank; other lines are parsed if they have at most `limit` bytes
unfoldable pub reading_of : ℕ → List ℕ → Reading
reading_of limit line =
    if list_all is_blank_byte line then blank
    else (if nat_lt limit (length line) then too_long else json_or_none (json_of line))
