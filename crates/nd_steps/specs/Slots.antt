-- The integer at a key of a processor's maps, 0 if the map does not have the key; and the processor with another integer there.
use Rattle.std.specs.Prelude.{◌≡◌, ◌<◌, ◌⊎◌, ◌≤◌, ℕ, zero, suc, ◌+◌, ℤ, pos, negsuc, ◌≤ℤ◌, cond, length, Option, Some, None, slice_set, unsigned_abs}
use Rattle.std.specs.Ordering.{nat_cmp}
use Rattle.std.specs.FinMap as fin
use Rattle.nd_time.specs.Limits.{max_count, max_counter}
use Rattle.nd_map.specs.Counts.{natural, at as number_at, int_at, set}
use Rattle.nd_paths.specs.declared.point.Pointstamp.{Pointstamp}
use Rattle.nd_delta.specs.Delta.{at as in_change, set as with_entry}
use Rattle.nd_vertex.specs.Items.{item_total}
use Rattle.nd_vertex.specs.Table.{is_zero}
use Rattle.nd_processor.specs.Keys.{value_at_total, sink_total}
use Rattle.nd_processor.specs.State.{ProcessorState, Requests, items_at}
use Rattle.nd_protocol.specs.Ranges.{IsValue}
use Rattle.nd_steps.specs.declared.slot.Slot.{Slot}
use Rattle.nd_steps.specs.declared.slot.Slot.TheVariants.{Records, Request, Token, State, Sink, Unsent}

-- ---- an optional value as an integer

-- 1 for a request, 0 for none
abbrev pub from_request : Option (Unit {0}) → ℤ
from_request None = pos 0
from_request (Some u) = pos 1

-- 1 more than a token's epoch, 0 for none
abbrev pub from_epoch : Option ℕ → ℤ
from_epoch None = pos 0
from_epoch (Some epoch) = pos (epoch + 1)

-- ---- the integer at a key

abbrev pub stands : ProcessorState → Slot → ℤ
stands q (Records key) = int_at q.records key
stands q (Request point) = from_request (fin.get q.requests point)
stands q (Token vertex) = from_epoch (fin.get q.tokens vertex)
stands q (State vertex key) = number_at (items_at q vertex) key
stands q (Sink key) = int_at q.sinks key
stands q (Unsent point) = in_change q.unsent point

-- ---- another integer at one key

abbrev pub with_request : Requests → Pointstamp → ℤ → Requests
with_request m x z = cond (is_zero z) (fin.remove m x) (fin.insert m x tt)

abbrev pub with_epoch : fin.FinMap nat_cmp ℕ → ℕ → ℤ → fin.FinMap nat_cmp ℕ
with_epoch m vertex (pos zero) = fin.remove m vertex
with_epoch m vertex (pos (suc epoch)) = fin.insert m vertex epoch
with_epoch m vertex (negsuc n) = m

abbrev pub puts : ProcessorState → Slot → ℤ → ProcessorState
puts q (Records key) z = record q { records = set value_at_total q.records key (natural z) }
puts q (Request point) z = record q { requests = with_request q.requests point z }
puts q (Token vertex) z = record q { tokens = with_epoch q.tokens vertex z }
puts q (State vertex key) z = record q { items = slice_set q.items vertex (set item_total (items_at q vertex) key z) }
puts q (Sink key) z = record q { sinks = set sink_total q.sinks key (natural z) }
puts q (Unsent point) z = record q { unsent = with_entry q.unsent point z }

-- ---- the integers that may be at a key

-- the processor has the map of the key
abbrev pub SlotIsThere : ProcessorState → Slot → Type 0
SlotIsThere q (State vertex key) = vertex < length q.items
SlotIsThere q _ = Unit {0}

-- z may be at a key of this map
abbrev pub SlotMay : Slot → ℤ → Type 0
SlotMay (Records key) z = pos 0 ≤ℤ z
SlotMay (Request point) z = (z ≡ pos 0) ⊎ (z ≡ pos 1)
SlotMay (Token vertex) z = pos 0 ≤ℤ z
SlotMay (State vertex key) z = Unit {0}
SlotMay (Sink key) z = pos 0 ≤ℤ z
SlotMay (Unsent point) z = Unit {0}

-- z is within the limit of a count, if the key is one of records or of a sink
abbrev pub CountWithin : Slot → ℤ → Type 0
CountWithin (Records key) z = unsigned_abs z ≤ max_count
CountWithin (Sink key) z = unsigned_abs z ≤ max_count
CountWithin _ z = Unit {0}

-- z is within the limit of an entry, if the key is one of what is unsent
abbrev pub EntryWithin : Slot → ℤ → Type 0
EntryWithin (Unsent point) z = unsigned_abs z ≤ max_count
EntryWithin _ z = Unit {0}

-- z fits the type of a token's epoch or of an item's number, if the key is one of these
abbrev pub SlotRanged : Slot → ℤ → Type 0
SlotRanged (Token vertex) z = unsigned_abs z ≤ max_counter + 1
SlotRanged (State vertex key) z = IsValue z
SlotRanged _ z = Unit {0}

-- z is within the limit that applies to the key
pub record SlotWithin (l : Slot) (z : ℤ) : Type 0 where
  pub count : CountWithin l z
  pub entry : EntryWithin l z
  pub ranged : SlotRanged l z
