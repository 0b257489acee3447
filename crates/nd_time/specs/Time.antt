-- Timestamps, with unbounded natural numbers (Naiad, SOSP 2013, section 2.1).
use Rattle.std.specs.Prelude.{◌≡◌, ℕ, ◌+◌, ◌<◌, ◌⊎◌, List, [], ◌∷◌, ◌++◌}

-- an epoch and the loop counters, outermost first
pub record Time : Type 0 where
  pub epoch : ℕ
  pub counters : List ℕ

-- the lists xs and ys agree up to a position, at which xs has the smaller number
pub record IsSmallerAtFirstDifference (xs ys : List ℕ) : Type 0 where
  pub common : List ℕ
  pub x : ℕ
  pub y : ℕ
  pub xs_rest : List ℕ
  pub ys_rest : List ℕ
  pub xs_is : xs ≡ common ++ x ∷ xs_rest
  pub ys_is : ys ≡ common ++ y ∷ ys_rest
  pub smaller : x < y

-- xs is at most ys in lexicographic order, for lists of the same length
abbrev pub IsLexicallyAtMost : List ℕ → List ℕ → Type 0
IsLexicallyAtMost xs ys = (xs ≡ ys) ⊎ IsSmallerAtFirstDifference xs ys

-- ---- what the vertices of a loop do to the counters (Naiad, SOSP 2013, section 2.1)

-- an ingress appends 0
abbrev pub ingress_of : List ℕ → List ℕ
ingress_of counters = counters ++ 0 ∷ []

-- an egress drops the last counter
abbrev pub egress_of : List ℕ → List ℕ
egress_of [] = []
egress_of (x ∷ []) = []
egress_of (x ∷ y ∷ rest) = x ∷ egress_of (y ∷ rest)

-- a feedback adds 1 to the last counter
abbrev pub feedback_of : List ℕ → List ℕ
feedback_of [] = []
feedback_of (x ∷ []) = (x + 1) ∷ []
feedback_of (x ∷ y ∷ rest) = x ∷ feedback_of (y ∷ rest)

-- the last counter, which is the innermost; 0 if there is none
abbrev pub last_of : List ℕ → ℕ
last_of [] = 0
last_of (x ∷ []) = x
last_of (x ∷ y ∷ rest) = last_of (y ∷ rest)
