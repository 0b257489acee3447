-- The result of a write.
use Rattle.std.specs.Prelude.{ℕ, ◌==◌, ◌&&◌, Bool, true, List, length, nat_lt, Result, Ok, Err}

-- a write failed, or wrote none of a nonempty slice
abbrev pub refuses : {E : Type 0} → Result ℕ E → List ℕ → Bool
refuses (Ok n) bytes = n == 0 && nat_lt 0 (length bytes)
refuses (Err e) bytes = true
