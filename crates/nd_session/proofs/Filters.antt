-- The positions of the elements that pass a test
use Rattle.std.proofs.Common.{◌≡◌, ℕ, zero, suc, ◌+◌, ◌<◌, ◌≤◌, Bool, true, false, List, [], ◌∷◌, length, take, arith, refl, sym, ap, subst, ◌∙◌}
use Rattle.std.proofs.lemmas.List.Sums.{sum_by-cons}
use Rattle.std.specs.Prelude.{slice_get, Some, filter, count_by, cond}

count_by-cons : {X : Type 0} (p : X → Bool) (y : X) (xs : List X) (i : ℕ) → count_by p (take (suc i) (y ∷ xs)) ≡ cond (p y) 1 0 + count_by p (take i xs)
count_by-cons p y xs i = sum_by-cons (λ x. cond (p x) 1 0) y (take i xs)

one_more : {X : Type 0} (ys : List X) (y x : X) (n : ℕ) (b : Bool) → slice_get ys n ≡ Some x → slice_get (cond b (y ∷ ys) ys) (cond b 1 0 + n) ≡ Some x
one_more ys y x n true e = let one : 1 + n ≡ suc n = omega arith in rw one e
one_more ys y x n false e = let none : 0 + n ≡ n = omega arith in rw none e

pub filter_at : {X : Type 0} (p : X → Bool) (xs : List X) (i : ℕ) (x : X) → slice_get xs i ≡ Some x → p x ≡ true → slice_get (filter p xs) (count_by p (take i xs)) ≡ Some x
filter_at p [] i x e t = absurd cc
filter_at p (y ∷ xs) zero x e t =
    let same : y ≡ x = cc in
    let passes : p y ≡ true = ap p same ∙ t in rw passes (ap Some same)
filter_at {X} p (y ∷ xs) (suc i) x e t =
    let rest : slice_get (filter p xs) (count_by p (take i xs)) ≡ Some x = filter_at p xs i x e t in
    let P : ℕ → Type 0 = λ m. slice_get (filter p (y ∷ xs)) m ≡ Some x in
    subst P (sym (count_by-cons p y xs i)) (one_more (filter p xs) y x (count_by p (take i xs)) (p y) rest)

-- an element of the filtered list, with its position in the complete list
pub record Found {X : Type 0} (p : X → Bool) (xs : List X) (k : ℕ) (x : X) : Type 0 where
  pub place : ℕ
  pub at : slice_get xs place ≡ Some x
  pub passes : p x ≡ true
  pub number : count_by p (take place xs) ≡ k

found_later : {X : Type 0} (p : X → Bool) (y : X) (xs : List X) (k j : ℕ) (x : X) (b : Bool) → p y ≡ b → cond b 1 0 + j ≡ k → Found p xs j x → Found p (y ∷ xs) k x
found_later p y xs k j x b is total f = record {
  place = suc f.place;
  at = f.at;
  passes = f.passes;
  number = count_by-cons p y xs f.place ∙ (ap (λ c. cond c 1 0 + count_by p (take f.place xs)) is ∙ (ap (λ m. cond b 1 0 + m) f.number ∙ total));
}

found_by : {X : Type 0} (p : X → Bool) (y : X) (xs : List X) (k : ℕ) (x : X) → ((j : ℕ) → slice_get (filter p xs) j ≡ Some x → Found p xs j x)
    → (b : Bool) → p y ≡ b → slice_get (cond b (y ∷ filter p xs) (filter p xs)) k ≡ Some x → Found p (y ∷ xs) k x
found_by p y xs zero x later true is e =
    let same : y ≡ x = cc in record { place = 0; at = ap Some same; passes = ap p (sym same) ∙ is; number = refl }
found_by p y xs (suc k) x later true is e = found_later p y xs (suc k) k x true is (omega arith) (later k e)
found_by p y xs k x later false is e = found_later p y xs k k x false is (omega arith) (later k e)

pub found_in : {X : Type 0} (p : X → Bool) (xs : List X) (k : ℕ) (x : X) → slice_get (filter p xs) k ≡ Some x → Found p xs k x
found_in p [] k x e = absurd cc
found_in p (y ∷ xs) k x e = found_by p y xs k x (λ j f. found_in p xs j x f) (p y) refl e

pub some_at : {X : Type 0} (xs : List X) (i : ℕ) → i < length xs → (x : X) × (slice_get xs i ≡ Some x)
some_at [] i lt = absurd (omega arith)
some_at (x ∷ xs) zero lt = (x, refl)
some_at (x ∷ xs) (suc i) lt = some_at xs i (omega arith)

-- a list that has all elements of another at their positions, and is not longer, is that list
pub same_list : {X : Type 0} (xs ys : List X) → ((k : ℕ) (y : X) → slice_get ys k ≡ Some y → slice_get xs k ≡ Some y) → length xs ≤ length ys → xs ≡ ys
same_list [] [] has le = refl
same_list [] (y ∷ ys) has le = absurd (let h : slice_get [] 0 ≡ Some y = has 0 y refl in cc)
same_list (x ∷ xs) [] has le = absurd (omega arith)
same_list (x ∷ xs) (y ∷ ys) has le =
    let h : slice_get (x ∷ xs) 0 ≡ Some y = has 0 y refl in
    let head : x ≡ y = cc in
    let tail : xs ≡ ys = same_list xs ys (λ k z e. has (suc k) z e) (omega arith) in cc

-- ---- the first elements of a list

pub in_take : {X : Type 0} (xs : List X) (i m : ℕ) (x : X) → slice_get (take i xs) m ≡ Some x → (m < i) × (slice_get xs m ≡ Some x)
in_take [] zero m x e = absurd cc
in_take [] (suc i) m x e = absurd cc
in_take (y ∷ xs) zero m x e = absurd cc
in_take (y ∷ xs) (suc i) zero x e = (omega arith, e)
in_take (y ∷ xs) (suc i) (suc m) x e = let h = in_take xs i m x e in (omega (arith, h.0), h.1)

pub to_take : {X : Type 0} (xs : List X) (i m : ℕ) (x : X) → m < i → slice_get xs m ≡ Some x → slice_get (take i xs) m ≡ Some x
to_take [] zero m x lt e = absurd (omega arith)
to_take [] (suc i) m x lt e = e
to_take (y ∷ xs) zero m x lt e = absurd (omega arith)
to_take (y ∷ xs) (suc i) zero x lt e = e
to_take (y ∷ xs) (suc i) (suc m) x lt e = to_take xs i m x (omega arith) e

pub take_less : {X : Type 0} (xs : List X) (m i : ℕ) → m ≤ i → take m (take i xs) ≡ take m xs
take_less [] zero i le = refl
take_less [] (suc m) zero le = refl
take_less [] (suc m) (suc i) le = refl
take_less (y ∷ xs) zero i le = refl
take_less (y ∷ xs) (suc m) zero le = absurd (omega arith)
take_less (y ∷ xs) (suc m) (suc i) le = ap (λ l. y ∷ l) (take_less xs m i (omega arith))
