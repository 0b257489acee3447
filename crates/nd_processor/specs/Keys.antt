-- The order in which the keys of a processor's maps are listed.
use Rattle.std.specs.Prelude.{ℕ, ℤ, refl}
use Rattle.std.specs.Coded.{Coded, code_by, coded×, coded_ℕ, coded_ℤ}
use Rattle.std.specs.declared.cmp.Ordering.{Ordering}
use Rattle.std.specs.Ordering.{nat_cmp, int_cmp, ordering_then}
use Rattle.std.specs.Cmp.{IsTotalOrder}
use Rattle.std.specs.FinMap.{IsAntisymmetric}
use Rattle.std.proofs.Common.{ap}
use Rattle.std.proofs.lemmas.Map.Lookups.{exact_pairs, exact_unsigned, exact_signed}
use Rattle.std.proofs.lemmas.Cmp.{nat_cmp_total, int_cmp_total, on_total, then_total}
use Rattle.nd_paths.specs.Point.{point_cmp, point_code, point_total, point_exact}
use Rattle.nd_paths.specs.declared.point.Pointstamp.{Pointstamp}
use Rattle.nd_processor.specs.declared.key.ValueAt.{ValueAt}
use Rattle.nd_processor.specs.declared.key.SinkKey.{SinkKey}

-- the order of records: by pointstamp, then by value
abbrev pub value_at_cmp : ValueAt → ValueAt → Ordering
value_at_cmp a b = ordering_then (point_cmp a.point b.point) (int_cmp a.value b.value)

-- the order of the counts of sinks: by vertex, then by value
abbrev pub sink_cmp : SinkKey → SinkKey → Ordering
sink_cmp a b = ordering_then (nat_cmp a.vertex b.vertex) (int_cmp a.value b.value)

-- keys encoded as numbers
abbrev pub value_at_code : Coded ValueAt
value_at_code = code_by (Pointstamp × ℤ) (coded× point_code coded_ℤ) (λ k. (k.point, k.value)) (λ p. record { point = p.0; value = p.1 }) (λ _. refl)

abbrev pub sink_code : Coded SinkKey
sink_code = code_by (ℕ × ℤ) (coded× coded_ℕ coded_ℤ) (λ k. (k.vertex, k.value)) (λ p. record { vertex = p.0; value = p.1 }) (λ _. refl)

pub value_at_total : IsTotalOrder value_at_cmp
value_at_total = then_total (on_total (λ k. k.point) point_total) (on_total (λ k. k.value) int_cmp_total)

pub sink_total : IsTotalOrder sink_cmp
sink_total = then_total (on_total (λ k. k.vertex) nat_cmp_total) (on_total (λ k. k.value) int_cmp_total)

-- keys that compare as equal are equal
pub value_at_exact : IsAntisymmetric value_at_cmp
value_at_exact a b h = ap (λ (p : Pointstamp × ℤ). record { point = p.0; value = p.1 }) (exact_pairs point_cmp int_cmp point_exact exact_signed (a.point, a.value) (b.point, b.value) h)

pub sink_exact : IsAntisymmetric sink_cmp
sink_exact a b h = ap (λ (p : ℕ × ℤ). record { vertex = p.0; value = p.1 }) (exact_pairs nat_cmp int_cmp exact_unsigned exact_signed (a.vertex, a.value) (b.vertex, b.value) h)
