-- What a worker has found, with one more piece.
use Rattle.std.proofs.Common.{◌≡◌, ℕ, List, [], ◌∷◌, ◌++◌, Option, inl, inr, length, length-append, sym, ap, subst, arith}
use Rattle.nd_history.specs.Works.{IsResult, AreFound}
use Rattle.nd_history.proofs.Elements.{slice_get-snoc}

module _ (Hit : ℕ → Type 0) (lo hi : ℕ) where
  -- nothing is found yet
  pub starts : (claimed : List ℕ) (found : List (Option ℕ)) → claimed ≡ [] → found ≡ [] → AreFound Hit lo hi claimed found
  starts claimed found none nothing =
      let empty : length found ≡ 0 = ap length nothing in record {
        within = omega (arith, empty);
        results = λ k below j r at there. absurd (omega (arith, empty, below));
      }

  -- a piece is claimed
  pub begins : (claimed more : List ℕ) (found : List (Option ℕ)) (j : ℕ) → AreFound Hit lo hi claimed found → more ≡ claimed ++ j ∷ [] → AreFound Hit lo hi more found
  begins claimed more found j w is =
      subst (λ (ns : List ℕ). AreFound Hit lo hi ns found) (sym is) (record {
        within = omega (arith, length-append claimed (j ∷ []), w.within);
        results = λ k below i r at there. elim (slice_get-snoc claimed j k i at) [
          | inl p ↦ w.results k below i r p.1 there
          | inr p ↦ absurd (omega (arith, w.within, below, p.0))
        ];
      })

  ended : (claimed : List ℕ) (found : List (Option ℕ)) (j : ℕ) (result : Option ℕ) → AreFound Hit lo hi claimed found → length found ≡ length claimed → IsResult Hit lo hi j result → AreFound Hit lo hi (claimed ++ j ∷ []) (found ++ result ∷ [])
  ended claimed found j result w even right =
      record {
        within = omega (arith, length-append claimed (j ∷ []), length-append found (result ∷ []), even);
        results = λ k below i r at there. elim (slice_get-snoc claimed j k i at) [
          | inl p ↦ elim (slice_get-snoc found result k r there) [
            | inl q ↦ w.results k q.0 i r p.1 q.1
            | inr q ↦ absurd (omega (arith, p.0, q.0, even))
          ]
          | inr p ↦ elim (slice_get-snoc found result k r there) [
            | inl q ↦ absurd (omega (arith, p.0, q.0, even))
            | inr q ↦
                let P : ℕ → Type 0 = λ n. IsResult Hit lo hi n r in
                let Q : Option ℕ → Type 0 = λ o. IsResult Hit lo hi j o in
                subst P p.1 (subst Q q.1 right)
          ]
        ];
      }

  -- the piece is searched
  pub ends : (claimed more : List ℕ) (found told : List (Option ℕ)) (j : ℕ) (result : Option ℕ) → AreFound Hit lo hi claimed found → length found ≡ length claimed → IsResult Hit lo hi j result → more ≡ claimed ++ j ∷ [] → told ≡ found ++ result ∷ [] → AreFound Hit lo hi more told
  ends claimed more found told j result w even right is tells =
      subst (λ (os : List (Option ℕ)). AreFound Hit lo hi more os) (sym tells) (subst (λ (ns : List ℕ). AreFound Hit lo hi ns (found ++ result ∷ [])) (sym is) (ended claimed found j result w even right))
