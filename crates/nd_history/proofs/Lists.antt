-- The lists of all workers
use Rattle.std.proofs.Common.{◌≡◌, ◌≢◌, ℕ, suc, ◌+◌, ◌<◌, ◌≤◌, nat_lt, cond, List, [], ◌∷◌, ◌++◌, min, map, inl, inr, All, arith, refl, ap}
use Rattle.std.proofs.lemmas.Bool.Decides.{nat_tests}
use Rattle.std.proofs.lemmas.Bool.{cases_lt}
use Rattle.nd_history.specs.Claims.{times, once_below}
use Rattle.nd_history.specs.Claims.{times_all}
use Rattle.nd_history.proofs.Totals.{times-append}

pub times_all-more : {X : Type 0} (x : ℕ) (items : X → List ℕ) (vs : List X) (v : X) → times_all x (map items (vs ++ v ∷ [])) ≡ times_all x (map items vs) + times x (items v)
times_all-more x items [] v = omega arith
times_all-more x items (u ∷ vs) v = omega (arith, times_all-more x items vs v)

pub map-more : {X Y : Type 0} (f : X → Y) (xs : List X) (x : X) → map f (xs ++ x ∷ []) ≡ map f xs ++ f x ∷ []
map-more f [] x = refl
map-more f (y ∷ xs) x = ap (λ ys. f y ∷ ys) (map-more f xs x)

pub map_twice : {X Y Z : Type 0} (f : X → Y) (h : Y → Z) (xs : List X) → map h (map f xs) ≡ map (λ x. h (f x)) xs
map_twice f h [] = refl
map_twice f h (x ∷ xs) = ap (λ ys. h (f x) ∷ ys) (map_twice f h xs)

unequal : (x y : ℕ) → y ≢ x → times x (y ∷ []) ≡ 0
unequal x y ne = grind (arith, nat_tests)

-- a number that is not in a list
pub times_above : (x n : ℕ) (ys : List ℕ) → All (λ y. n ≤ y) ys → x < n → times x ys ≡ 0
times_above x n [] all lt = refl
times_above x n (y ∷ ys) all lt =
    let head : n ≤ y = all 0 y (omega arith) in
    let here : times x (y ∷ []) ≡ 0 = unequal x y (λ e. absurd (omega arith)) in
    let rest : times x ys ≡ 0 = times_above x n ys (λ k d below. all (suc k) d (omega arith)) lt in
    omega arith

pub times_below : (x n : ℕ) (ys : List ℕ) → All (λ y. y < n) ys → n ≤ x → times x ys ≡ 0
times_below x n [] all le = refl
times_below x n (y ∷ ys) all le =
    let head : y < n = all 0 y (omega arith) in
    let here : times x (y ∷ []) ≡ 0 = unequal x y (λ e. absurd (omega arith)) in
    let rest : times x ys ≡ 0 = times_below x n ys (λ k d below. all (suc k) d (omega arith)) le in
    omega arith

-- of what was drawn, the numbers below p
abbrev pub times_under : ℕ → ℕ → List ℕ → ℕ
times_under p x ys = cond (nat_lt x p) (times x ys) 0

under_yes : (p x : ℕ) (ys : List ℕ) → x < p → times_under p x ys ≡ times x ys
under_yes p x ys lt = grind (arith, nat_tests)

under_no : (p x : ℕ) (ys : List ℕ) → p ≤ x → times_under p x ys ≡ 0
under_no p x ys le = grind (arith, nat_tests)

pub more_lists : (p x : ℕ) (drawn claimed over : List ℕ) → All (λ y. y < p) claimed → All (λ y. p ≤ y) over → times_under p x (drawn ++ (claimed ++ over)) ≡ times_under p x drawn + times x claimed
more_lists p x drawn claimed over below above =
    elim (cases_lt x p) [
      | inl lt ↦ omega (
        arith,
        under_yes p x (drawn ++ (claimed ++ over)) lt,
        under_yes p x drawn lt,
        times-append x drawn (claimed ++ over),
        times-append x claimed over,
        times_above x p over above lt,
      )
      | inr ge ↦ omega (arith, under_no p x (drawn ++ (claimed ++ over)) ge, under_no p x drawn ge, times_below x p claimed below ge)
    ]

pub below_min : (x n p : ℕ) → cond (nat_lt x p) (once_below x n) 0 ≡ once_below x (min n p)
below_min x n p = grind (arith, nat_tests)
