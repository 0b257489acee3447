-- The least and the greatest 64-bit integer: no 64-bit integer is below the first or above the second.
use Rattle.std.specs.Prelude.{◌≡◌, ◌-◌, ◌^◌, ◌<ℤ◌, true, false, ℤ, pos, negsuc, refl}
use Rattle.std.proofs.Common.{FitsSigned, w64, arith}
use Rattle.std.proofs.lemmas.Int.{ints}
use Rattle.std.specs.declared.cmp.Ordering.{Ordering}
use Rattle.std.specs.declared.cmp.Ordering.TheVariants.{Less, Equal, Greater}
use Rattle.std.specs.Cmp.{int_ranks}
use Rattle.std.specs.Ordering.{MatchOrdering, int_cmp, is_le, is_lt}

pub not_below : (z : ℤ) → FitsSigned w64 z → is_le (int_cmp (negsuc (2 ^ 63 - 1)) z) ≡ true
not_below z fits = by (int_cmp (negsuc (2 ^ 63 - 1)) z) (int_ranks (negsuc (2 ^ 63 - 1)) z)
  where
    by : (r : Ordering) → MatchOrdering r (negsuc (2 ^ 63 - 1) <ℤ z) (negsuc (2 ^ 63 - 1) ≡ z) (z <ℤ negsuc (2 ^ 63 - 1)) → is_le r ≡ true
    by Less h = refl
    by Equal h = refl
    by Greater h = absurd (let f = fits.sfits in omega (arith, ints, h, f))

pub not_above : (z : ℤ) → FitsSigned w64 z → is_lt (int_cmp (pos (2 ^ 63 - 1)) z) ≡ false
not_above z fits = by (int_cmp (pos (2 ^ 63 - 1)) z) (int_ranks (pos (2 ^ 63 - 1)) z)
  where
    by : (r : Ordering) → MatchOrdering r (pos (2 ^ 63 - 1) <ℤ z) (pos (2 ^ 63 - 1) ≡ z) (z <ℤ pos (2 ^ 63 - 1)) → is_lt r ≡ false
    by Less h = absurd (let f = fits.sfits in omega (arith, ints, h, f))
    by Equal h = refl
    by Greater h = refl
