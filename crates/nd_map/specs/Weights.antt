-- The sum of the weights of the entries of a finite map.
use Rattle.std.specs.Prelude.{ℕ, List, Option, Some, None, sum_by}

-- the sum of the weights of the entries
abbrev pub weight : {K X : Type 0} → (K → X → ℕ) → List (K × X) → ℕ
weight f es = sum_by (λ e. f e.0 e.1) es

-- the weight of what is found at a key: 0 if nothing is found
abbrev pub weight_at : {K X : Type 0} → (K → X → ℕ) → K → Option X → ℕ
weight_at f k None = 0
weight_at f k (Some v) = f k v
