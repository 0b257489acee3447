-- The result of a read.
use Rattle.std.specs.Prelude.{ℕ, ◌==◌, Bool, false, Result, Ok, Err}

-- how many bytes a read returned
abbrev pub given_by : {E : Type 0} → Result ℕ E → ℕ
given_by (Ok n) = n
given_by (Err e) = 0

-- a read returned no bytes: the source has ended
abbrev pub is_end : {E : Type 0} → Result ℕ E → Bool
is_end (Ok n) = n == 0
is_end (Err e) = false
