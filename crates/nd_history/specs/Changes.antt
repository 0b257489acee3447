-- The positions at which an entry changes.
use Rattle.std.specs.Prelude.{ℕ, ◌+◌, ◌-◌, ℤ, Bool, not, List, map, filter, refl}
use Rattle.std.specs.Coded.{Coded, code_by, coded×, coded_ℕ, coded_ℤ}
use Rattle.std.specs.List.{range_with_len}
use Rattle.std.specs.Ordering.{int_eq}
use Rattle.nd_timeline.specs.declared.changed.Changed.{Changed}

-- the entry at a position differs from the entry at the position before
abbrev pub is_other : (ℕ → ℤ) → ℕ → Bool
is_other entry i = not (int_eq (entry i) (entry (i - 1)))

-- the positions i with lo < i and i at most hi
abbrev pub positions : ℕ → ℕ → List ℕ
positions lo hi = range_with_len (lo + 1) (hi - lo)

-- a position, with the entry there
abbrev pub changed : (ℕ → ℤ) → ℕ → Changed
changed entry i = record { position = i; entry = entry i }

-- the changes between two positions: each position at which the entry differs from the one before, in order, with the entry there
unfoldable pub changes_between : (ℕ → ℤ) → ℕ → ℕ → List Changed
changes_between entry lo hi = map (changed entry) (filter (is_other entry) (positions lo hi))

-- ---- codes

abbrev pub changed_code : Coded Changed
changed_code = code_by (ℕ × ℤ) (coded× coded_ℕ coded_ℤ) (λ c. (c.position, c.entry)) (λ t. record { position = t.0; entry = t.1 }) (λ _. refl)
