-- What supports a pointstamp supports each pointstamp at or after it: for a partial order B of points, and its strict order.
use Rattle.std.proofs.Common.{◌≡◌, ◌≢◌, ℤ, sym, subst}
use Rattle.nd_delta.specs.Upright.{IsSupported}

module _ {P : Type 0} (B : P → P → Type 0) (transitive : (s t u : P) → B s t → B t u → B s u) (antisymmetric : (s t : P) → B s t → B t s → s ≡ t) where
  strictly_then : (y w x : P) → B y w × (y ≢ w) → B w x → B y x × (y ≢ x)
  strictly_then y w x first then =
      (transitive y w x first.0 then, λ one. first.1 (antisymmetric y w first.0 (subst (λ z. B w z) (sym one) then)))

  pub supported_after : (H : P → Type 0) (f : P → ℤ) (w x : P) → IsSupported (λ s t. B s t × (s ≢ t)) H f w → B w x → IsSupported (λ s t. B s t × (s ≢ t)) H f x
  supported_after H f w x support then = (support.0, strictly_then support.0 w x support.1 then, support.2)
