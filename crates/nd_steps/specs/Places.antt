-- The places of a cluster's state: a processor and a key of one of its maps, or a pointstamp of a view.
use Rattle.std.specs.Prelude.{◌≡◌, ℕ, zero, suc, ℤ, pos, Bool, [], refl}
use Rattle.std.specs.declared.cmp.Ordering.{Ordering}
use Rattle.std.specs.Ordering.{nat_cmp, int_cmp, ordering_then, eq_by_cmp}
use Rattle.std.specs.Cmp.{IsTotalOrder}
use Rattle.std.specs.FinMap.{IsAntisymmetric}
use Rattle.std.proofs.Common.{sym, ap, ◌∙◌}
use Rattle.std.proofs.lemmas.Map.Lookups.{exact_pairs, exact_unsigned, exact_signed}
use Rattle.std.proofs.lemmas.Cmp.{nat_cmp_total, int_cmp_total, on_total, then_total}
use Rattle.nd_time.specs.Time.{Time}
use Rattle.nd_paths.specs.Point.{point_cmp, point_total, point_exact}
use Rattle.nd_paths.specs.declared.point.Pointstamp.{Pointstamp}
use Rattle.nd_steps.specs.declared.slot.Slot.{Slot}
use Rattle.nd_steps.specs.declared.slot.Slot.TheVariants.{Records, Request, Token, State, Sink, Unsent}

-- a key of one of processor p's maps, or a pointstamp of q's view
pub data Place : Type 0 where
  place_at : (p : ℕ) (slot : Slot) → Place
  view_of : (q : ℕ) (point : Pointstamp) → Place

-- ---- places in order, so that finite maps may have them as keys

-- the time in the parts of a place that has none
abbrev no_time : Time
no_time = record { epoch = 0; counters = [] }

-- the parts of a place: the map, the processor, and the key
abbrev pub parts : Place → ℕ × (ℕ × (Pointstamp × ℤ))
parts (place_at p (Records key)) = (0, (p, (key.point, key.value)))
parts (place_at p (Request point)) = (1, (p, (point, pos 0)))
parts (place_at p (Token vertex)) = (2, (p, (record { location = vertex; time = no_time }, pos 0)))
parts (place_at p (State vertex key)) = (3, (p, (record { location = vertex; time = key.time }, key.item)))
parts (place_at p (Sink key)) = (4, (p, (record { location = key.vertex; time = no_time }, key.value)))
parts (place_at p (Unsent point)) = (5, (p, (point, pos 0)))
parts (view_of q point) = (6, (q, (point, pos 0)))

-- the place of these parts
abbrev from_parts : ℕ → ℕ → Pointstamp → ℤ → Place
from_parts zero p x v = place_at p (Records (record { point = x; value = v }))
from_parts (suc zero) p x v = place_at p (Request x)
from_parts (suc (suc zero)) p x v = place_at p (Token x.location)
from_parts (suc (suc (suc zero))) p x v = place_at p (State x.location (record { time = x.time; item = v }))
from_parts (suc (suc (suc (suc zero)))) p x v = place_at p (Sink (record { vertex = x.location; value = v }))
from_parts (suc (suc (suc (suc (suc zero))))) p x v = place_at p (Unsent x)
from_parts (suc (suc (suc (suc (suc (suc n)))))) p x v = view_of p x

abbrev rebuilt : ℕ × (ℕ × (Pointstamp × ℤ)) → Place
rebuilt t = from_parts t.0 t.1.0 t.1.1.0 t.1.1.1

rebuilt-parts : (k : Place) → rebuilt (parts k) ≡ k
rebuilt-parts (place_at p (Records key)) = refl
rebuilt-parts (place_at p (Request point)) = refl
rebuilt-parts (place_at p (Token vertex)) = refl
rebuilt-parts (place_at p (State vertex key)) = refl
rebuilt-parts (place_at p (Sink key)) = refl
rebuilt-parts (place_at p (Unsent point)) = refl
rebuilt-parts (view_of q point) = refl

abbrev in_map_cmp : Pointstamp × ℤ → Pointstamp × ℤ → Ordering
in_map_cmp a b = ordering_then (point_cmp a.0 b.0) (int_cmp a.1 b.1)

abbrev in_processor_cmp : ℕ × (Pointstamp × ℤ) → ℕ × (Pointstamp × ℤ) → Ordering
in_processor_cmp a b = ordering_then (nat_cmp a.0 b.0) (in_map_cmp a.1 b.1)

abbrev parts_cmp : ℕ × (ℕ × (Pointstamp × ℤ)) → ℕ × (ℕ × (Pointstamp × ℤ)) → Ordering
parts_cmp a b = ordering_then (nat_cmp a.0 b.0) (in_processor_cmp a.1 b.1)

-- the order of places: by map, then by processor, then by key
abbrev pub place_cmp : Place → Place → Ordering
place_cmp a b = parts_cmp (parts a) (parts b)

in_map_total : IsTotalOrder in_map_cmp
in_map_total = then_total (on_total (λ a. a.0) point_total) (on_total (λ a. a.1) int_cmp_total)

in_processor_total : IsTotalOrder in_processor_cmp
in_processor_total = then_total (on_total (λ a. a.0) nat_cmp_total) (on_total (λ a. a.1) in_map_total)

parts_total : IsTotalOrder parts_cmp
parts_total = then_total (on_total (λ a. a.0) nat_cmp_total) (on_total (λ a. a.1) in_processor_total)

pub place_total : IsTotalOrder place_cmp
place_total = on_total parts parts_total

in_map_exact : IsAntisymmetric in_map_cmp
in_map_exact a b h = exact_pairs point_cmp int_cmp point_exact exact_signed a b h

in_processor_exact : IsAntisymmetric in_processor_cmp
in_processor_exact a b h = exact_pairs nat_cmp in_map_cmp exact_unsigned in_map_exact a b h

parts_exact : IsAntisymmetric parts_cmp
parts_exact a b h = exact_pairs nat_cmp in_processor_cmp exact_unsigned in_processor_exact a b h

-- places that compare as equal are equal
pub place_exact : IsAntisymmetric place_cmp
place_exact a b h = sym (rebuilt-parts a) ∙ ap rebuilt (parts_exact (parts a) (parts b) h) ∙ rebuilt-parts b

-- whether two places are equal
abbrev pub is_place : Place → Place → Bool
is_place a b = eq_by_cmp place_cmp a b
