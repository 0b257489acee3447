-- What is left of a limit after a number is subtracted.
use Rattle.std.proofs.Common.{◌≡◌, ◌<◌, ◌≤◌, ℕ, ◌+◌, List, length, take, get_or, sum_by, Option, Some, None, ap, sym, subst, arith}
use Rattle.std.proofs.lemmas.List.Sums.{sum_by_more_le}
use Rattle.nd_cluster.specs.Size.{Leaves}

pub none_left : (many n : ℕ) (r : Option ℕ) → r ≡ None → many < n → Leaves many n r
none_left many n r none lt = rw none lt

-- what is left after a sum: first one part is subtracted, then the other
pub left_of_more : (many k rest n total : ℕ) (r : Option ℕ) → rest + k ≡ many → k + n ≡ total → Leaves rest n r → Leaves many total r
left_of_more many k rest n total None is all h = omega (arith, is, all, h)
left_of_more many k rest n total (Some x) is all h = omega (arith, is, all, h)

-- the sum so far and the next number are within the total
pub sum_within : {X : Type 0} (f : X → ℕ) (xs : List X) (i : ℕ) (x : X) → i < length xs → x ≡ get_or xs i x → sum_by f (take i xs) + f x ≤ sum_by f xs
sum_within f xs i x lt is = subst (λ n. sum_by f (take i xs) + n ≤ sum_by f xs) (ap f (sym is)) (sum_by_more_le f xs i x lt)
