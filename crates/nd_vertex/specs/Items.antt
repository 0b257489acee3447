-- The state of a vertex: a number other than 0 for each of finitely many items at timestamps.
use Rattle.std.specs.Prelude.{ℤ, refl}
use Rattle.std.specs.Coded.{Coded, code_by, coded×, coded_ℤ}
use Rattle.std.specs.declared.cmp.Ordering.{Ordering}
use Rattle.std.specs.Ordering.{int_cmp, ordering_then}
use Rattle.std.specs.Cmp.{IsTotalOrder}
use Rattle.std.specs.FinMap.{IsAntisymmetric}
use Rattle.std.proofs.Common.{ap}
use Rattle.std.proofs.lemmas.Map.Lookups.{exact_pairs, exact_signed}
use Rattle.std.proofs.lemmas.Cmp.{int_cmp_total, on_total, then_total}
use Rattle.nd_map.specs.Counts.{Counts, integers, code}
use Rattle.nd_time.specs.Time.{Time}
use Rattle.nd_time.specs.Listing.{time_cmp, time_code, time_total, time_exact}
use Rattle.nd_vertex.specs.declared.key.ItemKey.{ItemKey}

-- the order of keys: by timestamp, then by item
abbrev pub item_cmp : ItemKey → ItemKey → Ordering
item_cmp a b = ordering_then (time_cmp a.time b.time) (int_cmp a.item b.item)

-- the encoding of a key as numbers
abbrev pub item_code : Coded ItemKey
item_code = code_by (Time × ℤ) (coded× time_code coded_ℤ) (λ k. (k.time, k.item)) (λ p. record { time = p.0; item = p.1 }) (λ _. refl)

pub item_total : IsTotalOrder item_cmp
item_total = then_total (on_total (λ k. k.time) time_total) (on_total (λ k. k.item) int_cmp_total)

-- keys that compare as equal are equal
pub item_exact : IsAntisymmetric item_cmp
item_exact a b h = ap (λ (p : Time × ℤ). record { time = p.0; item = p.1 }) (exact_pairs time_cmp int_cmp time_exact exact_signed (a.time, a.item) (b.time, b.item) h)

-- the state of a vertex; an item with the number 0 is absent
abbrev pub Items : Type 0
Items = Counts item_cmp integers

abbrev pub items_code : Coded Items
items_code = code item_code coded_ℤ

-- the key of an item at a timestamp
abbrev pub item_key : Time → ℤ → ItemKey
item_key t item = record { time = t; item = item }
