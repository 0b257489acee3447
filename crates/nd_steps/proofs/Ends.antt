-- The ends of queues: one without a front is empty, and one with a newest change is not.
use Rattle.std.proofs.Common.{◌≡◌, ◌<◌, ℕ, zero, suc, List, [], ◌∷◌, ◌++◌, length, map, get_or, None, slice_get, refl, sym, ap, subst, ◌∙◌, arith}
use Rattle.std.proofs.lemmas.List.{length-set, length_push}
use Rattle.nd_delta.specs.Delta.{DeltaValue}
use Rattle.nd_mesh.specs.Mesh.{appended, without_newest, row, pushed, unpushed, HasQueue, IsVacant}
use Rattle.nd_mesh.specs.Laws.{row-pushed}

-- c is the newest change of each queue from a processor
abbrev pub IsNewest : List (List (List DeltaValue)) → ℕ → DeltaValue → Type 0
IsNewest m from c = pushed (unpushed m from) from c ≡ m

pub without_front : (q : List DeltaValue) → slice_get q 0 ≡ None → q ≡ []
without_front [] e = refl
without_front (c ∷ q) e = absurd (cc)

some_newest : (c : DeltaValue) (qs : List (List DeltaValue)) (to : ℕ) → to < length (map (appended c) qs) → get_or (map (appended c) qs) to [] ≡ [] → ⊥
some_newest c [] to lt e = absurd (omega arith)
some_newest c (q ∷ qs) zero lt e = let l = length_push q c in let n : length (q ++ c ∷ []) ≡ 0 = ap length e in absurd (omega arith)
some_newest c (q ∷ qs) (suc to) lt e = some_newest c qs to (omega arith) e

pub newest_there : (m : List (List (List DeltaValue))) (from : ℕ) (c : DeltaValue) → from < length m → IsNewest m from c → HasQueue IsVacant (row m from) → ⊥
newest_there m from c f newest has =
    let u : List (List (List DeltaValue)) = unpushed m from in
    let long : length u ≡ length m = length-set m from (map without_newest (row m from)) in
    let row_is : row m from ≡ map (appended c) (row u from) = ap (λ n. row n from) (sym newest) ∙ row-pushed u from c (omega arith) in
    some_newest c (row u from) has.0 (subst (λ r. has.0 < length r) row_is has.1) (ap (λ r. get_or r has.0 []) (sym row_is) ∙ has.2)
