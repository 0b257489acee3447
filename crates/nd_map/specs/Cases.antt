-- Small facts that many proofs need: the two halves of a conjunction, what a test of an ordering means, a number that is not
-- below another, and whether an integer is 0.
use Rattle.std.specs.Prelude.{◌≡◌, ◌≢◌, ◌⊎◌, ◌<◌, ◌≤◌, ◌<ℤ◌, Bool, true, false, cond, ◌&&◌, T, ℕ, zero, suc, ℤ, pos, negsuc, refl}
use Rattle.std.specs.declared.cmp.Ordering.{Ordering}
use Rattle.std.specs.declared.cmp.Ordering.TheVariants.{Less, Equal, Greater}
use Rattle.std.specs.Ordering.{is_eq, is_lt}
use Rattle.std.proofs.Common.{arith, inl, inr}
use Rattle.std.proofs.lemmas.Bool.{cases_lt}
use Rattle.std.proofs.lemmas.Int.{ints}

pub first : (a b : Bool) → T (a && b) → T a
first true b p = tt
first false b p = p

pub second : (a b : Bool) → T (a && b) → T b
second true b p = p
second false b p = absurd p

pub less : (r : Ordering) → T (is_lt r) → r ≡ Less
less Less p = refl
less Equal p = absurd p
less Greater p = absurd p

pub equal : (r : Ordering) → is_eq r ≡ true → r ≡ Equal
equal Less e = absurd (cc)
equal Equal e = refl
equal Greater e = absurd (cc)

pub zero_or_not : (z : ℤ) → (z ≡ pos 0) ⊎ (z ≢ pos 0)
zero_or_not (pos zero) = inl refl
zero_or_not (pos (suc n)) = inr (λ e. absurd (cc))
zero_or_not (negsuc n) = inr (λ e. absurd (cc))

pub not_zero : (z : ℤ) → pos 0 <ℤ z → z ≢ pos 0
not_zero z h e = absurd (omega (arith, ints, h, e))

pub at_least : (a b : ℕ) → (a < b → ⊥) → b ≤ a
at_least a b h = elim (cases_lt a b) [ inl lt ↦ absurd (h lt) | inr le ↦ le ]

-- writing back the value that was there before restores it
pub again : {X : Type 0} (b : Bool) (v w x : X) → (b ≡ true → w ≡ x) → cond b w (cond b v x) ≡ x
again true v w x e = e refl
again false v w x e = refl
