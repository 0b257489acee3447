-- The integers of changes as the code stores them, and sums of two.
use Rattle.std.proofs.Common.{◌≡◌, ◌≤◌, ◌<◌, ◌*◌, ℕ, ℤ, pos, ◌+ℤ◌, length, get_or, w64, to_z, of_z, unsigned_abs, sym, ap, subst, ◌∙◌, arith}
use Rattle.std.proofs.lemmas.Int.{ints, to_z-of_z, fits_signed_from_abs}
use Rattle.nd_time.specs.Limits.{max_count}
use Rattle.nd_paths.specs.declared.point.Pointstamp.{Pointstamp}
use Rattle.nd_delta.specs.Delta.{DeltaValue, entries, IsWithin}
use Rattle.nd_delta.specs.Least.{at-index}

-- an integer as the code stores it
pub kept : (x : ℤ) → unsigned_abs x ≤ 2 * max_count → to_z w64 (of_z w64 x) ≡ x
kept x within = to_z-of_z w64 x (fits_signed_from_abs w64 x (omega (arith, within)))

-- it is 0 if the integer of the code is
pub kept_zero : (x : ℤ) → unsigned_abs x ≤ max_count → of_z w64 x ≡ 0 → x ≡ pos 0
kept_zero x within e = sym (kept x (omega (arith, within))) ∙ ap (to_z w64) e

pub summed : (x y : ℤ) → unsigned_abs x ≤ max_count → unsigned_abs y ≤ max_count → to_z w64 (of_z w64 (to_z w64 (of_z w64 x) +ℤ to_z w64 (of_z w64 y))) ≡ x +ℤ y
summed x y x_within y_within =
    rw (kept x (omega (arith, x_within)), kept y (omega (arith, y_within)))
    (to_z-of_z w64 (x +ℤ y) (fits_signed_from_abs w64 (x +ℤ y) (omega (arith, ints, x_within, y_within))))

-- an entry of a change is within the limit of an entry
pub entry_within : (n : DeltaValue) (i : ℕ) (x : Pointstamp × ℤ) → i < length (entries n) → x ≡ get_or (entries n) i x → IsWithin n → unsigned_abs x.1 ≤ max_count
entry_within n i x lt is within = subst (λ y. unsigned_abs y ≤ max_count) (sym (at-index n i x lt is)) (within x.0)
