-- The integer at each place of a cluster's state, 0 if its map does not have the key; and at how many places two states differ.
use Rattle.std.specs.Prelude.{◌<◌, ◌≤◌, ℕ, zero, suc, ◌+◌, ℤ, ◌-ℤ◌, cond, List, ◌++◌, map, length, slice_set, unsigned_abs}
use Rattle.std.specs.List.{flat_map, enumerate_from}
use Rattle.std.specs.declared.cmp.Ordering.{Ordering}
use Rattle.std.specs.Ordering.{int_cmp, ordering_then, eq_by_cmp}
use Rattle.std.specs.Cmp.Lexicographic.{slice_cmp}
use Rattle.std.specs.FinMap as fin
use Rattle.nd_time.specs.Limits.{max_count}
use Rattle.nd_map.specs.Counts.{Counts, integers, entries, on_keys, size}
use Rattle.nd_paths.specs.Point.{point_cmp}
use Rattle.nd_paths.specs.declared.point.Pointstamp.{Pointstamp}
use Rattle.nd_delta.specs.Delta.{DeltaValue, at as in_change, set as with_entry, entries as listed}
use Rattle.nd_processor.specs.State.{ProcessorState}
use Rattle.nd_protocol.specs.State.{ClusterState, processor, view, queue}
use Rattle.nd_steps.specs.Places.{Place, place_at, view_of, place_cmp, place_total}
use Rattle.nd_steps.specs.declared.slot.Slot.TheVariants.{Records, Request, Token, State, Sink, Unsent}
use Rattle.nd_steps.specs.Slots.{stands, puts, SlotIsThere, SlotMay, CountWithin, EntryWithin}

-- ---- the integer at a place

abbrev pub standing : ClusterState → Place → ℤ
standing s (place_at p slot) = stands (processor s p) slot
standing s (view_of q point) = in_change (view s q) point

-- ---- another integer at one place

abbrev pub put_at : ClusterState → Place → ℤ → ClusterState
put_at s (place_at p slot) z = record s { processors = slice_set s.processors p (puts (processor s p) slot z) }
put_at s (view_of q point) z = record s { views = slice_set s.views q (with_entry (view s q) point z) }

-- the cluster has the map of the place
abbrev pub IsThere : ClusterState → Place → Type 0
IsThere s (place_at p slot) = (p < length s.processors) × SlotIsThere (processor s p) slot
IsThere s (view_of q point) = q < length s.views

-- z may be at the place
abbrev pub MayStand : Place → ℤ → Type 0
MayStand (place_at p slot) z = SlotMay slot z
MayStand (view_of q point) z = Unit {0}

-- z is within the limit of a count, if the place is one of a count; `EntryAt` is the same for an entry
abbrev pub CountAt : Place → ℤ → Type 0
CountAt (place_at p slot) z = CountWithin slot z
CountAt (view_of q point) z = Unit {0}

abbrev pub EntryAt : Place → ℤ → Type 0
EntryAt (place_at p slot) z = EntryWithin slot z
EntryAt (view_of q point) z = unsigned_abs z ≤ max_count

-- ---- at how many places two states differ

-- the places of processor p's maps at which the integer is not 0
abbrev pub places_of_processor : ℕ → ProcessorState → List Place
places_of_processor p q =
    map (λ e. place_at p (Records e.0)) (entries q.records)
    ++ (map (λ x. place_at p (Request x)) (fin.keys q.requests)
    ++ (map (λ e. place_at p (Token e.0)) (fin.entries q.tokens)
    ++ (flat_map (λ i. map (λ e. place_at p (State i.0 e.0)) (entries i.1)) (enumerate_from 0 q.items)
    ++ (map (λ e. place_at p (Sink e.0)) (entries q.sinks)
    ++ map (λ e. place_at p (Unsent e.0)) (listed q.unsent)))))

-- the places of a cluster at which the integer is not 0
abbrev pub places_of : ClusterState → List Place
places_of s =
    flat_map (λ i. places_of_processor i.0 i.1) (enumerate_from 0 s.processors)
    ++ flat_map (λ i. map (λ e. view_of i.0 e.0) (listed i.1)) (enumerate_from 0 s.views)

-- how much t has more than s, at each place at which the two differ
unfoldable pub difference : ClusterState → ClusterState → Counts place_cmp integers
difference s t = on_keys place_total (places_of s ++ places_of t) (λ k. standing t k -ℤ standing s k)

-- ---- at how many queues two states differ

abbrev entry_cmp : Pointstamp × ℤ → Pointstamp × ℤ → Ordering
entry_cmp a b = ordering_then (point_cmp a.0 b.0) (int_cmp a.1 b.1)

-- the order of changes, by their entries, and of queues, by their changes
abbrev pub change_cmp : DeltaValue → DeltaValue → Ordering
change_cmp c d = slice_cmp entry_cmp (listed c) (listed d)

abbrev pub queue_cmp : List DeltaValue → List DeltaValue → Ordering
queue_cmp cs ds = slice_cmp change_cmp cs ds

-- f 0 + ... + f (n - 1)
abbrev pub sum_below : ℕ → (ℕ → ℕ) → ℕ
sum_below zero f = 0
sum_below (suc n) f = sum_below n f + f n

-- the number of queues that differ
unfoldable pub queues_changed : ClusterState → ClusterState → ℕ
queues_changed s t =
    let n : ℕ = length s.processors in
    sum_below n (λ p. sum_below n (λ q. cond (eq_by_cmp queue_cmp (queue s p q) (queue t p q)) 0 1))

-- at how many keys of their maps, and at how many queues, two states differ
abbrev pub changed : ClusterState → ClusterState → ℕ
changed s t = size (difference s t) + queues_changed s t
