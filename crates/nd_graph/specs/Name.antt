-- The names of vertices and edges.
use Rattle.std.specs.Prelude.{ℕ, Bool, ◌&&◌, List, length, nat_le}
use Rattle.std.specs.List.{list_all}
use Rattle.nd_time.specs.Limits.{max_name, max_name_v8, least_of_name, least_of_name_v8, greatest_of_name}

-- a byte from `least` to '~'
abbrev pub is_plain : ℕ → ℕ → Bool
is_plain least byte = nat_le least byte && nat_le byte greatest_of_name

-- 1 to `most` such bytes
abbrev pub is_text_within : ℕ → ℕ → List ℕ → Bool
is_text_within most least text = nat_le 1 (length text) && (nat_le (length text) most && list_all (is_plain least) text)

-- 1 to 128 bytes from ' ' to '~'
abbrev pub is_name : List ℕ → Bool
is_name text = is_text_within max_name least_of_name text

-- a name in a script of a version before 9: 1 to 32 bytes from '!' to '~'
abbrev pub is_name_v8 : List ℕ → Bool
is_name_v8 text = is_text_within max_name_v8 least_of_name_v8 text
