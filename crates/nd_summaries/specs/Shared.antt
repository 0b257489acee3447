-- Lists of summaries, each different one once, and the numbers by which they are named.
use Rattle.std.specs.Prelude.{◌≡◌, ◌≢◌, ℕ, ◌+◌, ◌*◌, ◌%◌, ◌<◌, All, Contains, List, [], ◌∷◌, ◌++◌, length, map, slice_index_or}
use Rattle.std.specs.List.{AllPairs}
use Rattle.nd_summaries.specs.declared.summary.Summary.{Summary}
use Rattle.nd_summaries.specs.declared.shared.TheConstants.{BUCKETS}

-- the numbers one after the other, mixed into a number below BUCKETS
abbrev pub mixed : ℕ → List ℕ → ℕ
mixed h [] = h
mixed h (x ∷ xs) = mixed ((h * 31 + x % BUCKETS) % BUCKETS) xs

-- the bucket for a list of summaries
abbrev pub mixed_all : ℕ → List Summary → ℕ
mixed_all h [] = h
mixed_all h (s ∷ list) = mixed_all (mixed (mixed h (s.keep ∷ s.add ∷ [])) s.constants) list

abbrev pub bucket_of : List Summary → ℕ
bucket_of list = mixed_all 0 list

-- the list with this number
abbrev pub named : List (List Summary) → ℕ → List Summary
named lists n = slice_index_or lists n []

-- the list stands at its number
abbrev pub IsNamed : List (List Summary) → ℕ → List Summary → Type 0
IsNamed lists n list = (n < length lists) × (named lists n ≡ list)

-- no list stands twice, and each is found in its bucket
pub record IsIndexed (lists : List (List Summary)) (buckets : List (List ℕ)) : Type 0 where
  pub count : length buckets ≡ BUCKETS
  pub found : (n : ℕ) → n < length lists → Contains (slice_index_or buckets (bucket_of (named lists n)) []) n
  pub small : (b : ℕ) → All (λ n. n < length lists) (slice_index_or buckets b [])
  pub once : AllPairs (λ s t. s ≢ t) lists

-- the new lists begin with the old ones
abbrev pub Extends : List (List Summary) → List (List Summary) → Type 0
Extends old new = (more : List (List Summary)) × (new ≡ old ++ more)

-- these are the numbers of the lists of a row
pub record AreNumbers (lists : List (List Summary)) (numbers : List ℕ) (row : List (List Summary)) : Type 0 where
  pub small : All (λ n. n < length lists) numbers
  pub names : row ≡ map (λ n. named lists n) numbers
