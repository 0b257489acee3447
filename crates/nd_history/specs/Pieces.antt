-- The positions of a search, from lo to hi, divided into pieces.
use Rattle.std.specs.Prelude.{ℕ, ◌+◌, ◌-◌, ◌*◌, ◌/◌, ◌≤◌, min}
use Rattle.nd_time.specs.Limits.{max_kept, piece_length}

-- a range of positions: in order, and within the maximum number of kept steps
pub record IsRange (lo hi : ℕ) : Type 0 where
  pub in_order : lo ≤ hi
  pub few : hi ≤ max_kept

-- the number of pieces
abbrev pub piece_count : ℕ → ℕ → ℕ
piece_count lo hi = (hi - lo) / piece_length + 1

-- where piece j begins
abbrev pub piece_start : ℕ → ℕ → ℕ
piece_start lo j = lo + piece_length * j

-- the last position of piece j, at most hi
abbrev pub piece_end : ℕ → ℕ → ℕ → ℕ
piece_end lo hi j = min hi (lo + piece_length * j + (piece_length - 1))
