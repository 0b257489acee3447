-- Induction over the points of a finite list, along a strict order that need not be decidable.
use Rattle.std.proofs.Common.{◌≡◌, ℕ, zero, suc, inl, inr, List, [], ◌∷◌, length, refl, sym, subst, ap, ◌∙◌, arith}
use Rattle.nd_protocol.proofs.Core.{IsStrictOrder, IsIn}

-- a list without one position of x
record Without {P : Type 0} (points : List P) (x : P) : Type 0 where
  rest : List P
  shorter : length points ≡ suc (length rest)
  keeps : (z : P) → IsIn points z → (x ≡ z → ⊥) → IsIn rest z

taken_out : {P : Type 0} (points : List P) (x : P) → IsIn points x → Without points x
taken_out [] x h = absurd h
taken_out (y ∷ ys) x (inl e) = record {
  rest = ys;
  shorter = refl;
  keeps = λ z h apart. elim h [ inl d ↦ absurd (apart (sym e ∙ d)) | inr i ↦ i ];
}
taken_out (y ∷ ys) x (inr h) =
    let w : Without ys x = taken_out ys x h in
    record {
      rest = y ∷ w.rest;
      shorter = ap suc w.shorter;
      keeps = λ z i apart. elim i [ inl e ↦ inl e | inr j ↦ inr (w.keeps z j apart) ];
    }

-- To show G x for an x that satisfies Q, G may be assumed at each earlier point that satisfies Q. There are finitely many of
-- these, as `within` states.
descend : {P : Type 0} {R : P → P → Type 0} → IsStrictOrder R → (Q G : P → Type 0) (step : (x : P) → Q x → ((y : P) → R y x → Q y → G y) → G x) (n : ℕ) (points : List P) → length points ≡ n → (x : P) (within : (y : P) → R y x → Q y → IsIn points y) → Q x → G x
descend o Q G step n [] e x within q = step x q (λ y r h. absurd (within y r h))
descend o Q G step zero (p ∷ ps) e x within q = absurd (omega arith)
descend {R = R} o Q G step (suc n) (p ∷ ps) e x within q =
    step x q (λ y r h.
    let w : Without (p ∷ ps) y = taken_out (p ∷ ps) y (within y r h) in
    descend o Q G step n w.rest (omega (arith, w.shorter)) y
    (λ z r' h'. w.keeps z (within z (o.transitive z y x r' r) h') (λ same. o.irreflexive z (subst (λ v. R z v) same r'))) h)

-- the same, if each point that satisfies Q is in the list
pub induction : {P : Type 0} {R : P → P → Type 0} → IsStrictOrder R → (Q G : P → Type 0) (points : List P) → ((y : P) → Q y → IsIn points y) → ((x : P) → Q x → ((y : P) → R y x → Q y → G y) → G x) → (x : P) → Q x → G x
induction o Q G points within step x q = descend o Q G step (length points) points refl x (λ y r h. within y h) q
