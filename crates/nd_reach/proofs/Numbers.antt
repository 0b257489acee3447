-- The form of a number tells the number apart, whatever follows the form.
use Rattle.std.proofs.Common.{◌≡◌, ℕ, zero, suc, ◌+◌, ◌*◌, ◌^◌, ◌<◌, ◌≤◌, ℤ, pos, negsuc, Bool, true, false, List, [], ◌∷◌, ◌++◌, take, drop, replicate, refl, sym, ap, ◌∙◌, arith, nat_lt, ◌==◌}
use Rattle.std.proofs.lemmas.Bool.{ltb-true}
use Rattle.std.proofs.lemmas.Bool.Decides.{nat_tests}
use Rattle.std.proofs.lemmas.Nat.{from_le_bytes-to_le_bytes_2, from_le_bytes-to_le_bytes_4, from_le_bytes-to_le_bytes_8}
use Rattle.std.specs.Int.{w16, w32, w64, to_le_bytes, from_le_bytes}
use Rattle.nd_reach.specs.Bytes.{number, number_by, integer}

-- The form of a value tells the value apart, whatever follows the form.
pub record Tells {X : Type 0} (f : X → List ℕ) : Type 0 where
  pub told : (x y : X) (r s : List ℕ) → f x ++ r ≡ f y ++ s → (x ≡ y) × (r ≡ s)

-- ---- numbers

-- how many zeros there are before the first other number, and what follows that
abbrev zeros : List ℕ → ℕ × List ℕ
zeros [] = (0, [])
zeros (zero ∷ t) = (suc (zeros t).0, (zeros t).1)
zeros (suc _ ∷ t) = (0, t)

zeros-replicate : (n : ℕ) (r : List ℕ) → zeros ((replicate n 0 ++ 1 ∷ []) ++ r) ≡ (n, r)
zeros-replicate zero r = refl
zeros-replicate (suc n) r = ap (λ (p : ℕ × List ℕ). (suc p.0, p.1)) (zeros-replicate n r)

-- the number whose form begins with this byte, and what follows the form
abbrev begun : Bool → Bool → Bool → Bool → ℕ → List ℕ → ℕ × List ℕ
begun true _ _ _ b t = (b, t)
begun false true _ _ b t = (from_le_bytes w16 (take 2 t), drop 2 t)
begun false false true _ b t = (from_le_bytes w32 (take 4 t), drop 4 t)
begun false false false true b t = (from_le_bytes w64 (take 8 t), drop 8 t)
begun false false false false b t = zeros t

abbrev first : List ℕ → ℕ × List ℕ
first [] = (0, [])
first (b ∷ t) = begun (nat_lt b 252) (b == 252) (b == 253) (b == 254) b t

first-number_by : (a b c d : Bool) (n : ℕ) (r : List ℕ) → nat_lt n 252 ≡ a → nat_lt n (2 ^ 16) ≡ b → nat_lt n (2 ^ 32) ≡ c → nat_lt n (2 ^ 64) ≡ d
    → first (number_by a b c d n ++ r) ≡ (n, r)
first-number_by true b c d n r one two four eight = rw one refl
first-number_by false true c d n r one two four eight = ap (λ (k : ℕ). (k, r)) (from_le_bytes-to_le_bytes_2 n (ltb-true n (2 ^ 16) two))
first-number_by false false true d n r one two four eight = ap (λ (k : ℕ). (k, r)) (from_le_bytes-to_le_bytes_4 n (ltb-true n (2 ^ 32) four))
first-number_by false false false true n r one two four eight = ap (λ (k : ℕ). (k, r)) (from_le_bytes-to_le_bytes_8 n (ltb-true n (2 ^ 64) eight))
first-number_by false false false false n r one two four eight = zeros-replicate n r

first-number : (n : ℕ) (r : List ℕ) → first (number n ++ r) ≡ (n, r)
unfolding number
first-number n r = first-number_by _ _ _ _ n r refl refl refl refl

pub tells_number : Tells number
tells_number = record {
  told = λ n m r s e.
      let same : ◌≡◌ {A = ℕ × List ℕ} (n, r) (m, s) = sym (first-number n r) ∙ ap first e ∙ first-number m s in
      (ap (λ (p : ℕ × List ℕ). p.0) same, ap (λ (p : ℕ × List ℕ). p.1) same);
}

-- ---- integers

told_integer : (x y : ℤ) (r s : List ℕ) → integer x ++ r ≡ integer y ++ s → (x ≡ y) × (r ≡ s)
told_integer (pos n) (pos m) r s e =
    let both = tells_number.told (2 * n) (2 * m) r s e in
    let half : n ≡ m = omega (arith, both.0) in
    (ap pos half, both.1)
told_integer (pos n) (negsuc m) r s e = absurd (omega (arith, (tells_number.told (2 * n) (2 * m + 1) r s e).0))
told_integer (negsuc n) (pos m) r s e = absurd (omega (arith, (tells_number.told (2 * n + 1) (2 * m) r s e).0))
told_integer (negsuc n) (negsuc m) r s e =
    let both = tells_number.told (2 * n + 1) (2 * m + 1) r s e in
    let half : n ≡ m = omega (arith, both.0) in
    (ap negsuc half, both.1)

pub tells_integer : Tells integer
tells_integer = record { told = told_integer }

-- ---- the form of a number, by its size

below : (a b : ℕ) → a < b → nat_lt a b ≡ true
below a b h = grind (arith, nat_tests)

from : (a b : ℕ) → b ≤ a → nat_lt a b ≡ false
from a b h = grind (arith, nat_tests)

pub number-one : (n : ℕ) → n < 252 → number n ≡ n ∷ []
unfolding number
number-one n h = rw (below n 252 h) refl

pub number-two : (n : ℕ) → 252 ≤ n → n < 2 ^ 16 → number n ≡ 252 ∷ to_le_bytes w16 n
unfolding number
number-two n h k = rw (from n 252 h, below n (2 ^ 16) k) refl

pub number-four : (n : ℕ) → 252 ≤ n → 2 ^ 16 ≤ n → n < 2 ^ 32 → number n ≡ 253 ∷ to_le_bytes w32 n
unfolding number
number-four n h k l = rw (from n 252 h, from n (2 ^ 16) k, below n (2 ^ 32) l) refl

pub number-eight : (n : ℕ) → 252 ≤ n → 2 ^ 16 ≤ n → 2 ^ 32 ≤ n → n < 2 ^ 64 → number n ≡ 254 ∷ to_le_bytes w64 n
unfolding number
number-eight n h k l m = rw (from n 252 h, from n (2 ^ 16) k, from n (2 ^ 32) l, below n (2 ^ 64) m) refl
