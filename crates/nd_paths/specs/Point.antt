-- The order in which pointstamps are listed.
use Rattle.std.specs.Prelude.{ℕ, refl}
use Rattle.std.specs.Coded.{Coded, code_by, coded×, coded_ℕ}
use Rattle.std.specs.declared.cmp.Ordering.{Ordering}
use Rattle.std.specs.Ordering.{nat_cmp, ordering_then}
use Rattle.std.specs.Cmp.{IsTotalOrder}
use Rattle.std.proofs.Common.{ap}
use Rattle.std.proofs.lemmas.Map.Lookups.{CmpEqualImpliesEq, exact_pairs, exact_unsigned}
use Rattle.std.proofs.lemmas.Cmp.{nat_cmp_total, on_total, then_total}
use Rattle.nd_time.specs.Time.{Time}
use Rattle.nd_time.specs.Listing.{time_cmp, time_code, time_total, time_exact}
use Rattle.nd_paths.specs.declared.point.Pointstamp.{Pointstamp}

-- the order of listing: by location, then by time
abbrev pub point_cmp : Pointstamp → Pointstamp → Ordering
point_cmp p q = ordering_then (nat_cmp p.location q.location) (time_cmp p.time q.time)

-- pointstamps encoded as numbers
abbrev pub point_code : Coded Pointstamp
point_code = code_by (ℕ × Time) (coded× coded_ℕ time_code) (λ p. (p.location, p.time)) (λ p. record { location = p.0; time = p.1 }) (λ _. refl)

pub point_total : IsTotalOrder point_cmp
point_total = then_total (on_total (λ p. p.location) nat_cmp_total) (on_total (λ p. p.time) time_total)

-- pointstamps that compare as equal are equal
pub point_exact : CmpEqualImpliesEq point_cmp
point_exact p q h = ap (λ (x : ℕ × Time). record { location = x.0; time = x.1 }) (exact_pairs nat_cmp time_cmp exact_unsigned time_exact (p.location, p.time) (q.location, q.time) h)
