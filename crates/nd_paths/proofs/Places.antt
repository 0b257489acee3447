-- Comparing counters place by place.
use Rattle.std.proofs.Common.{◌↔◌, ℕ, ◌+◌, ◌<◌, ◌≤◌, List, length, drop, get_or, arith}
use Rattle.std.proofs.lemmas.List.{drop_more, drop_all}
use Rattle.nd_time.specs.Order.{IsEachAtMost}

-- the numbers at a place, and the rest
each_at : (xs ys : List ℕ) (i : ℕ) → i < length xs → i < length ys
    → IsEachAtMost (drop i xs) (drop i ys) ↔ ((get_or xs i 0 ≤ get_or ys i 0) × IsEachAtMost (drop (i + 1) xs) (drop (i + 1) ys))
each_at xs ys i h k = rw (drop_more xs i 0 h, drop_more ys i 0 k) (λ p. p, λ p. p)

-- a number that is greater than the other at its place decides
pub each_differ : (xs ys : List ℕ) (i : ℕ) → i < length xs → i < length ys → get_or ys i 0 < get_or xs i 0 → IsEachAtMost (drop i xs) (drop i ys) → ⊥
each_differ xs ys i h k l p = let both = (each_at xs ys i h k).0 p in absurd (omega (arith, both.0, l))

-- otherwise the rest decides
pub each_same : (xs ys : List ℕ) (i : ℕ) → i < length xs → i < length ys → get_or xs i 0 ≤ get_or ys i 0
    → IsEachAtMost (drop (i + 1) xs) (drop (i + 1) ys) → IsEachAtMost (drop i xs) (drop i ys)
each_same xs ys i h k l p = (each_at xs ys i h k).1 (l, p)

pub each_rest : (xs ys : List ℕ) (i : ℕ) → i < length xs → i < length ys → IsEachAtMost (drop i xs) (drop i ys) → IsEachAtMost (drop (i + 1) xs) (drop (i + 1) ys)
each_rest xs ys i h k p = ((each_at xs ys i h k).0 p).1

-- nothing is left after the end
pub each_past : (xs ys : List ℕ) (i : ℕ) → length xs ≤ i → length ys ≤ i → IsEachAtMost (drop i xs) (drop i ys)
each_past xs ys i h k = rw (drop_all i xs h, drop_all i ys k) tt
