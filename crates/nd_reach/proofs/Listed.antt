-- The moves of a state as a list.
use Rattle.std.proofs.Common.{◌≡◌, ◌∙◌, inl, inr, ℕ, zero, suc, List, [], ◌∷◌, sym, ap, subst, Some}
use Rattle.std.specs.Prelude.{slice_get}
use Rattle.nd_protocol.specs.State.{ClusterState}
use Rattle.nd_protocol.specs.Enabled.{IsEnabled}
use Rattle.nd_protocol.specs.declared.step.Step.{Step}
use Rattle.nd_cluster.specs.Moves.{tries, AreMoves, AreTheEnabled}
use Rattle.nd_reach.specs.Ways.{IsMove}
use Rattle.nd_cluster.specs.declared.moves.Allowed.{Allowed}
use Rattle.nd_reach.proofs.Places.{contains_at, at_contained}

module _ {A : Type 0} (s : ClusterState) where
  listed : (all moves : List (Step A)) → AreTheEnabled s all moves → (k : ℕ) (x : Step A) → slice_get all k ≡ Some x → IsEnabled s x
      → (j : ℕ) × (slice_get moves j ≡ Some x)
  listed [] moves h k x is enabled = absurd (cc (is))
  listed (y ∷ all) moves (inl h) zero x is enabled = (0, ap (λ ms. slice_get ms 0) h.1.2 ∙ is)
  listed (y ∷ all) moves (inl h) (suc k) x is enabled =
      let r = listed all h.1.0 h.1.1 k x is enabled in
      (suc r.0, ap (λ ms. slice_get ms (suc r.0)) h.1.2 ∙ r.1)
  listed (y ∷ all) moves (inr h) zero x is enabled = let same : y ≡ x = cc (is) in absurd (h.0 (subst (IsEnabled s) (sym same) enabled))
  listed (y ∷ all) moves (inr h) (suc k) x is enabled = listed all moves h.1 k x is enabled

  told : (all moves : List (Step A)) → AreTheEnabled s all moves → (j : ℕ) (x : Step A) → slice_get moves j ≡ Some x
      → ((k : ℕ) × (slice_get all k ≡ Some x)) × IsEnabled s x
  told [] moves h j x is = let none : slice_get [] j ≡ Some x = subst (λ ms. slice_get ms j ≡ Some x) h is in absurd (cc (none))
  told (y ∷ all) moves (inl h) zero x is =
      let same : y ≡ x = (let at : slice_get (y ∷ h.1.0) 0 ≡ Some x = subst (λ ms. slice_get ms 0 ≡ Some x) h.1.2 is in cc (at)) in
      ((0, ap Some same), subst (IsEnabled s) same h.0)
  told (y ∷ all) moves (inl h) (suc j) x is =
      let r = told all h.1.0 h.1.1 j x (subst (λ ms. slice_get ms (suc j) ≡ Some x) h.1.2 is) in
      ((suc r.0.0, r.0.1), r.1)
  told (y ∷ all) moves (inr h) j x is = let r = told all moves h.1 j x is in ((suc r.0.0, r.0.1), r.1)

  pub move_listed : (allowed : Allowed) (moves : List (Step A)) (x : Step A) → AreMoves allowed s moves → IsMove allowed s x
      → (j : ℕ) × (slice_get moves j ≡ Some x)
  move_listed allowed moves x are is =
      let at = at_contained (tries allowed s) x is.tried in
      listed (tries allowed s) moves are at.0 x at.1 is.enabled

  pub listed_move : (allowed : Allowed) (moves : List (Step A)) (j : ℕ) (x : Step A) → AreMoves allowed s moves → slice_get moves j ≡ Some x
      → IsMove allowed s x
  listed_move allowed moves j x are is =
      let r = told (tries allowed s) moves are j x is in
      record { tried = contains_at (tries allowed s) r.0.0 x r.0.1; enabled = r.1 }
