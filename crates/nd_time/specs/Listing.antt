-- The order in which timestamps are listed.
use Rattle.std.specs.Prelude.{ℕ, List, refl}
use Rattle.std.specs.Coded.{Coded, code_by, coded×, coded_ℕ, coded_list}
use Rattle.std.specs.declared.cmp.Ordering.{Ordering}
use Rattle.std.specs.Ordering.{nat_cmp, ordering_then}
use Rattle.std.specs.Cmp.{IsTotalOrder}
use Rattle.std.specs.Cmp.Lexicographic.{slice_cmp}
use Rattle.std.proofs.Common.{ap}
use Rattle.std.proofs.lemmas.Map.Lookups.{CmpEqualImpliesEq, exact_pairs, exact_unsigned, exact_bytes}
use Rattle.std.proofs.lemmas.Cmp.{nat_cmp_total, nat_list_cmp_total, on_total, then_total}
use Rattle.nd_time.specs.Time.{Time}

-- the order of listing: by epoch, then by counters
abbrev pub time_cmp : Time → Time → Ordering
time_cmp s t = ordering_then (nat_cmp s.epoch t.epoch) (slice_cmp nat_cmp s.counters t.counters)

-- timestamps encoded as numbers
abbrev pub time_code : Coded Time
time_code = code_by (ℕ × List ℕ) (coded× coded_ℕ (coded_list coded_ℕ)) (λ t. (t.epoch, t.counters)) (λ p. record { epoch = p.0; counters = p.1 }) (λ _. refl)

pub time_total : IsTotalOrder time_cmp
time_total = then_total (on_total (λ t. t.epoch) nat_cmp_total) (on_total (λ t. t.counters) nat_list_cmp_total)

-- timestamps that compare as equal are equal
pub time_exact : CmpEqualImpliesEq time_cmp
time_exact s t h = ap (λ (p : ℕ × List ℕ). record { epoch = p.0; counters = p.1 }) (exact_pairs nat_cmp (slice_cmp nat_cmp) exact_unsigned exact_bytes (s.epoch, s.counters) (t.epoch, t.counters) h)
