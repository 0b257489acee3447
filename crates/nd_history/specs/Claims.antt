-- Which pieces the workers of a search claim: the numbers of the claim word, each drawn once.
use Rattle.std.specs.Prelude.{◌≡◌, ℕ, ◌+◌, ◌==◌, nat_lt, cond, List, [], ◌∷◌}

-- how often a number occurs in a list
abbrev pub times : ℕ → List ℕ → ℕ
times x [] = 0
times x (y ∷ ys) = cond (y == x) 1 0 + times x ys

-- how often it occurs in several lists
abbrev pub times_all : ℕ → List (List ℕ) → ℕ
times_all x [] = 0
times_all x (l ∷ ls) = times x l + times_all x ls

-- 1 for a number below n, else 0
abbrev pub once_below : ℕ → ℕ → ℕ
once_below x n = cond (nat_lt x n) 1 0

-- the lists are together the numbers below n, each once
abbrev pub AreTheNumbersBelow : ℕ → List (List ℕ) → Type 0
AreTheNumbersBelow n ls = (x : ℕ) → times_all x ls ≡ once_below x n
