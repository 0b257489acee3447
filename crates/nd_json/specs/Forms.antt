-- The exact forms of JSON values.
use Rattle.std.specs.Prelude.{ℕ, ◌^◌, ◌&&◌, ℤ, Bool, true, false, nat_lt, List, [], ◌∷◌, if◌then◌else◌, Option, Some, None, option_map, option_and_then}
use Rattle.std.specs.Option.{option_map_or}
use Rattle.std.specs.Str.{bytes_eq}
use Rattle.serde_json.specs.Data.{Data, null, boolean, number, string, array, object, Items, no_items, item, Members, no_members, member}
use Rattle.serde_json.specs.Find.{get, as_number, as_u64, as_i64, as_str, as_bool, as_array}

-- the items of an array as a list
abbrev pub listed : Items → List Data
listed no_items = []
listed (item d ds) = d ∷ listed ds

-- the keys of an object, in the order of their bytes
abbrev pub keys_of : Members → List (List ℕ)
keys_of no_members = []
keys_of (member k d ms) = k ∷ keys_of ms

-- whether two lists of strings are equal
abbrev pub same_texts : List (List ℕ) → List (List ℕ) → Bool
same_texts [] [] = true
same_texts [] (y ∷ ys) = false
same_texts (x ∷ xs) [] = false
same_texts (x ∷ xs) (y ∷ ys) = bytes_eq x y && same_texts xs ys

-- whether the value is an object with exactly these keys, given in the order of their bytes
unfoldable pub has_keys : List (List ℕ) → Data → Bool
has_keys keys null = false
has_keys keys (boolean b) = false
has_keys keys (number n) = false
has_keys keys (string s) = false
has_keys keys (array ds) = false
has_keys keys (object ms) = same_texts (keys_of ms) keys

-- the value as a string, if it is one
unfoldable pub text : Data → Option (List ℕ)
text d = as_str d

-- the value as an integer from 0 to 2^64 - 1, if it is one
unfoldable pub whole : Data → Option ℕ
whole d = option_and_then as_u64 (as_number d)

-- the value as an integer from 0 to 2^32 - 1, if it is one
unfoldable pub small : Data → Option ℕ
small d = option_and_then (λ n. if nat_lt n (2 ^ 32) then Some n else None) (whole d)

-- the value as an integer from -2^63 to 2^63 - 1, if it is one
unfoldable pub integer : Data → Option ℤ
integer d = option_and_then as_i64 (as_number d)

-- the value as a boolean, if it is one
unfoldable pub boolean_in : Data → Option Bool
boolean_in d = as_bool d

-- the items of the value, if it is an array
unfoldable pub list : Data → Option (List Data)
list d = option_map listed (as_array d)

-- the string at the key
abbrev pub text_at : List ℕ → Data → Option (List ℕ)
text_at key d = option_and_then text (get key d)

-- whether this string is at the key
unfoldable pub has_text : List ℕ → List ℕ → Data → Bool
has_text key wanted d = option_map_or (λ found. bytes_eq found wanted) (text_at key d) false

-- the integer from 0 to 2^64 - 1 at the key
abbrev pub whole_at : List ℕ → Data → Option ℕ
whole_at key d = option_and_then whole (get key d)

-- the integer from 0 to 2^32 - 1 at the key
abbrev pub small_at : List ℕ → Data → Option ℕ
small_at key d = option_and_then small (get key d)

-- the integer from -2^63 to 2^63 - 1 at the key
abbrev pub integer_at : List ℕ → Data → Option ℤ
integer_at key d = option_and_then integer (get key d)

-- the boolean at the key
abbrev pub boolean_at : List ℕ → Data → Option Bool
boolean_at key d = option_and_then boolean_in (get key d)

-- the items of the array at the key
abbrev pub list_at : List ℕ → Data → Option (List Data)
list_at key d = option_and_then list (get key d)
