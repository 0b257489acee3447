-- Numbers, lists and pointstamps as bytes. Each value has one form, and no form is the beginning of that
-- of another value.
use Rattle.std.specs.Prelude.{ℕ, ◌+◌, ◌*◌, ◌^◌, ℤ, pos, negsuc, Bool, true, false, nat_lt, List, ◌∷◌, [], ◌++◌, length, replicate}
use Rattle.std.specs.List.{flat_map}
use Rattle.std.specs.Int.{w16, w32, w64, to_le_bytes}
use Rattle.nd_time.specs.Time.{Time}
use Rattle.nd_paths.specs.declared.point.Pointstamp.{Pointstamp}

-- the form of a number, by whether it is below 252 and below what 2, 4 and 8 bytes can hold: one byte, or a byte that names how
-- many bytes follow, and these; of a larger number, which no program has, a byte and as many zeros, with a 1 at their end
abbrev pub number_by : Bool → Bool → Bool → Bool → ℕ → List ℕ
number_by true _ _ _ n = n ∷ []
number_by false true _ _ n = 252 ∷ to_le_bytes w16 n
number_by false false true _ n = 253 ∷ to_le_bytes w32 n
number_by false false false true n = 254 ∷ to_le_bytes w64 n
number_by false false false false n = 255 ∷ (replicate n 0 ++ 1 ∷ [])

-- the form of a number
unfoldable pub number : ℕ → List ℕ
number n = number_by (nat_lt n 252) (nat_lt n (2 ^ 16)) (nat_lt n (2 ^ 32)) (nat_lt n (2 ^ 64)) n

-- an integer: the even numbers are for those that are not negative, the odd ones for the others
abbrev pub integer : ℤ → List ℕ
integer (pos n) = number (2 * n)
integer (negsuc n) = number (2 * n + 1)

-- a list: how many items there are, and the items
abbrev pub list : {X : Type 0} → (X → List ℕ) → List X → List ℕ
list f xs = number (length xs) ++ flat_map f xs

-- a time: the epoch and the counters
abbrev pub time : Time → List ℕ
time t = number t.epoch ++ list number t.counters

-- a pointstamp: the location and the time
abbrev pub point : Pointstamp → List ℕ
point x = number x.location ++ time x.time

-- a pointstamp with an integer
abbrev pub entry : Pointstamp × ℤ → List ℕ
entry e = point e.0 ++ integer e.1
