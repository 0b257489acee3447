-- Totals over the hands, and counts in lists
use Rattle.std.proofs.Common.{◌≡◌, ℕ, zero, suc, ◌+◌, ◌==◌, ◌≤◌, cond, List, [], ◌∷◌, ◌++◌, length, set, arith, refl, sym, ap}
use Rattle.std.proofs.lemmas.Bool.Decides.{nat_tests}
use mathlib.Core.Option.{some, some-injective, some-ne-none}
use lib.ListN.{get_elem?}
use Rattle.nd_history.specs.declared.hand.Hand.{Hand}
use Rattle.nd_history.specs.Claims.{times, once_below}
use Rattle.nd_history.specs.Hands.{total}

pub times-append : (x : ℕ) (ys zs : List ℕ) → times x (ys ++ zs) ≡ times x ys + times x zs
times-append x [] zs = omega arith
times-append x (y ∷ ys) zs = omega (arith, times-append x ys zs)

pub times_none : (x : ℕ) (ys : List ℕ) → length ys ≡ 0 → times x ys ≡ 0
times_none x [] e = refl
times_none x (y ∷ ys) e = absurd (omega arith)

pub once_more : (x n : ℕ) → once_below x (n + 1) ≡ once_below x n + cond (n == x) 1 0
once_more x n = grind (arith, nat_tests)

pub total_set : (f : Hand → ℕ) (views : List Hand) (i : ℕ) (v w : Hand) → get_elem? views i ≡ some v → total f (set views i w) + f v ≡ total f views + f w
total_set f [] i v w at = absurd (some-ne-none v (sym at))
total_set f (u ∷ views) zero v w at = let same : f u ≡ f v = ap f (some-injective u v at) in omega arith
total_set f (u ∷ views) (suc i) v w at = omega (arith, total_set f views i v w at)

pub total_snoc : (f : Hand → ℕ) (views : List Hand) (v : Hand) → total f (views ++ v ∷ []) ≡ total f views + f v
total_snoc f [] v = omega arith
total_snoc f (u ∷ views) v = omega (arith, total_snoc f views v)

pub total_at : (f : Hand → ℕ) (views : List Hand) (i : ℕ) (v : Hand) → get_elem? views i ≡ some v → f v ≤ total f views
total_at f [] i v at = absurd (some-ne-none v (sym at))
total_at f (u ∷ views) zero v at = let same : f u ≡ f v = ap f (some-injective u v at) in omega arith
total_at f (u ∷ views) (suc i) v at = omega (arith, total_at f views i v at)

module _ (f g : Hand → ℕ) (none : (v : Hand) → g v ≡ 0 → f v ≡ 0) where
  all_none : (views : List Hand) → total g views ≡ 0 → total f views ≡ 0
  all_none [] e = refl
  all_none (u ∷ views) e =
      let here : g u ≡ 0 = omega arith in
      let rest : total g views ≡ 0 = omega arith in
      omega (arith, none u here, all_none views rest)

  -- a hand that has all of g has all of f
  pub only_one : (views : List Hand) (i : ℕ) (v : Hand) → get_elem? views i ≡ some v → total g views ≡ g v → total f views ≡ f v
  only_one [] i v at e = absurd (some-ne-none v (sym at))
  only_one (u ∷ views) zero v at e =
      let same : u ≡ v = some-injective u v at in
      let fs : f u ≡ f v = ap f same in
      let gs : g u ≡ g v = ap g same in
      let rest : total g views ≡ 0 = omega arith in
      omega (arith, all_none views rest)
  only_one (u ∷ views) (suc i) v at e =
      let most : g v ≤ total g views = total_at g views i v at in
      let here : g u ≡ 0 = omega arith in
      let rest : total g views ≡ g v = omega arith in
      omega (arith, none u here, only_one views i v at rest)
