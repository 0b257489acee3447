-- Numbers by which changes can be undone.
use Rattle.std.specs.Prelude.{◌≤◌, ◌^◌, ℤ, unsigned_abs}

-- n can be the difference of two integers at a place, so its negative is an integer of 128 bits, too
abbrev pub IsGain : ℤ → Type 0
IsGain n = unsigned_abs n ≤ 2 ^ 65
