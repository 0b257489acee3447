-- Writes that fail.
use Rattle.std.proofs.Common.{◌≡◌, ℕ, ◌==◌, ◌&&◌, List, length, false, refl}
use Rattle.std.proofs.lemmas.Bool.{ne_eqb}
use Rattle.std.specs.Prelude.{nat_lt}

-- a write that wrote some bytes has not failed
pub refuses-none : (n : ℕ) (bytes : List ℕ) → (n ≡ 0 → ⊥) → (n == 0 && nat_lt 0 (length bytes)) ≡ false
refuses-none n bytes h = rw (ne_eqb n 0 h) refl
