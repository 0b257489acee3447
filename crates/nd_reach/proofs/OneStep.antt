-- Whether two steps are the same can be decided.
use Rattle.std.proofs.Common.{◌≡◌, ◌≢◌, inl, inr, ◌⊎◌, ℕ, zero, suc, refl, ap}
use base.Stored.{Gv, gnil, gnum, gcons}
use Rattle.nd_protocol.specs.Codes.{step_code}
use Rattle.nd_protocol.specs.declared.step.Step.{Step}

one_number : (m n : ℕ) → (m ≡ n) ⊎ (m ≢ n)
one_number zero zero = inl refl
one_number zero (suc n) = inr (λ e. cc (e))
one_number (suc m) zero = inr (λ e. cc (e))
one_number (suc m) (suc n) = further (one_number m n)
  where
    further : (m ≡ n) ⊎ (m ≢ n) → (suc m ≡ suc n) ⊎ (suc m ≢ suc n)
    further (inl h) = inl (ap suc h)
    further (inr h) = inr (λ e. h (cc (e)))

both : (a b c d : Gv) → (a ≡ c) ⊎ (a ≢ c) → (b ≡ d) ⊎ (b ≢ d) → (gcons a b ≡ gcons c d) ⊎ (gcons a b ≢ gcons c d)
both a b c d (inl h) (inl k) = inl (cc (h, k))
both a b c d (inr h) _ = inr (λ e. h (cc (e)))
both a b c d (inl h) (inr k) = inr (λ e. k (cc (e)))

one_code : (a b : Gv) → (a ≡ b) ⊎ (a ≢ b)
one_code gnil gnil = inl refl
one_code gnil (gnum n) = inr (λ e. cc (e))
one_code gnil (gcons a b) = inr (λ e. cc (e))
one_code (gnum m) gnil = inr (λ e. cc (e))
one_code (gnum m) (gnum n) = further (one_number m n)
  where
    further : (m ≡ n) ⊎ (m ≢ n) → (gnum m ≡ gnum n) ⊎ (gnum m ≢ gnum n)
    further (inl h) = inl (ap gnum h)
    further (inr h) = inr (λ e. h (cc (e)))
one_code (gnum m) (gcons a b) = inr (λ e. cc (e))
one_code (gcons a b) gnil = inr (λ e. cc (e))
one_code (gcons a b) (gnum n) = inr (λ e. cc (e))
one_code (gcons a b) (gcons c d) = both a b c d (one_code a c) (one_code b d)

pub one_step : {A : Type 0} (x y : Step A) → (x ≡ y) ⊎ (x ≢ y)
one_step {A} x y = further (one_code (step_code.code x) (step_code.code y))
  where
    further : (step_code.code x ≡ step_code.code y) ⊎ (step_code.code x ≢ step_code.code y) → (x ≡ y) ⊎ (x ≢ y)
    further (inl h) = inl (step_code.inj x y h)
    further (inr h) = inr (λ e. h (ap step_code.code e))
