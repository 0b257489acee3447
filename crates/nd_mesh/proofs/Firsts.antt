-- A function applied to the first elements of a list, one after another.
use Rattle.std.proofs.Common.{◌≡◌, ℕ, ◌<◌, zero, suc, List, [], ◌∷◌, length, map, get_or, ap, ◌∙◌, refl, arith}
use Rattle.std.proofs.Math.ListN.{set}
use Rattle.nd_mesh.specs.Mesh.{first_mapped}

pub length-first_mapped : {X : Type 0} (f : X → X) (k : ℕ) (xs : List X) → length (first_mapped f k xs) ≡ length xs
length-first_mapped f zero xs = refl
length-first_mapped f (suc k) [] = refl
length-first_mapped f (suc k) (x ∷ xs) = ap suc (length-first_mapped f k xs)

-- one more element
pub set-first_mapped : {X : Type 0} (f : X → X) (k : ℕ) (xs : List X) (d : X) → k < length xs → set (first_mapped f k xs) k (f (get_or (first_mapped f k xs) k d)) ≡ first_mapped f (suc k) xs
set-first_mapped f k [] d lt = absurd (omega arith)
set-first_mapped f zero (x ∷ xs) d lt = refl
set-first_mapped f (suc k) (x ∷ xs) d lt = ap (λ ys. f x ∷ ys) (set-first_mapped f k xs d (omega arith))

first_mapped-all : {X : Type 0} (f : X → X) (xs : List X) → first_mapped f (length xs) xs ≡ map f xs
first_mapped-all f [] = refl
first_mapped-all f (x ∷ xs) = ap (λ ys. f x ∷ ys) (first_mapped-all f xs)

-- the complete list, after all elements
pub first_mapped-end : {X : Type 0} (f : X → X) (k : ℕ) (xs ys : List X) → ys ≡ first_mapped f k xs → k ≡ length xs → ys ≡ map f xs
first_mapped-end f k xs ys e all = e ∙ ap (λ n. first_mapped f n xs) all ∙ first_mapped-all f xs

-- a function that undoes f undoes it on the first elements
pub first_mapped-back : {X : Type 0} (f h : X → X) → ((x : X) → h (f x) ≡ x) → (k : ℕ) (xs : List X) → first_mapped h k (first_mapped f k xs) ≡ xs
first_mapped-back f h back zero xs = refl
first_mapped-back f h back (suc k) [] = refl
first_mapped-back f h back (suc k) (x ∷ xs) = ap (λ y. y ∷ first_mapped h k (first_mapped f k xs)) (back x) ∙ ap (λ ys. x ∷ ys) (first_mapped-back f h back k xs)
