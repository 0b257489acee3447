-- Edits of a processor's maps.
use Rattle.std.specs.Prelude.{◌≡◌, ◌≢◌, ◌<◌, ℕ, ◌+◌, ℤ, pos, ◌+ℤ◌, neg_ℤ, List, map, Option, Some, None, slice_index_or, slice_set, unsigned_abs}
use Rattle.std.proofs.Common.{Ordering}
use Rattle.std.specs.FinMap as fin
use Rattle.nd_time.specs.Limits.{max_count}
use Rattle.nd_time.specs.Time.{Time}
use Rattle.nd_paths.specs.declared.point.Pointstamp.{Pointstamp}
use Rattle.nd_map.specs.Counts.{none as no_items, at as count_at, added}
use Rattle.nd_delta.specs.Delta.{DeltaValue, at, set, plus, minus}
use Rattle.nd_vertex.specs.Items.{Items, item_key}
use Rattle.nd_vertex.specs.Edits.{with_item}
use Rattle.nd_vertex.specs.declared.key.ItemKey.{ItemKey}
use Rattle.nd_processor.specs.State.{ProcessorState, token_point}
use Rattle.nd_processor.specs.Keys.{value_at_total, sink_total}
use Rattle.nd_processor.specs.declared.key.ValueAt.{ValueAt}

-- ---- tokens and requests

-- the map with this value at a key, or without the key
abbrev pub with_value : {K X : Type 0} {R : K → K → Ordering} → fin.FinMap R X → K → Option X → fin.FinMap R X
with_value m k None = fin.remove m k
with_value m k (Some v) = fin.insert m k v

-- the pointstamps of the tokens, in the order of their vertices
abbrev pub token_points : ProcessorState → List Pointstamp
token_points q = map (λ e. token_point e.0 e.1) (fin.entries q.tokens)

-- ---- items

-- the items of all vertices, with another number for one item of a vertex
abbrev pub with_vertex_item : List Items → ℕ → ItemKey → Option ℤ → List Items
with_vertex_item items vertex k n = slice_set items vertex (with_item (slice_index_or items vertex no_items) k n)

-- ---- what is unsent

-- the change m with n added at the pointstamp x
abbrev pub more_unsent : DeltaValue → Pointstamp → ℤ → DeltaValue
more_unsent m x n = set m x (at m x +ℤ n)

-- ---- a processor with one edit

-- the integer that subtracts n when it is added
abbrev pub less : ℕ → ℤ
less n = neg_ℤ (pos n)

-- adding n to the count would exceed the limit
abbrev pub IsTooMany : ℕ → ℕ → Type 0
IsTooMany count n = max_count < count + n

-- the state with n added to the number of records of the key k
abbrev pub with_records : ProcessorState → ValueAt → ℤ → ProcessorState
with_records q k n = record q { records = added value_at_total q.records k n }

-- the state with n added to a sink's count of a value
abbrev pub with_counted : ProcessorState → ℕ → ℤ → ℤ → ProcessorState
with_counted q vertex value n = record q { sinks = added sink_total q.sinks (record { vertex = vertex; value = value }) n }

-- how often a sink has counted a value
abbrev pub counted_at : ProcessorState → ℕ → ℤ → ℕ
counted_at q vertex value = count_at q.sinks (record { vertex = vertex; value = value })

-- the state with the request x
abbrev pub with_request : ProcessorState → Pointstamp → ProcessorState
with_request q x = record q { requests = fin.insert q.requests x tt }

-- the state without the request x
abbrev pub without_request : ProcessorState → Pointstamp → ProcessorState
without_request q x = record q { requests = fin.remove q.requests x }

-- if `old` does not have the request x, then `new` without x is `old`
abbrev pub ComesBack : ProcessorState → ProcessorState → Pointstamp → Type 0
ComesBack old new x = fin.get old.requests x ≡ None → without_request new x ≡ old

-- if `old` has the request x, then `new` with x added is `old`
abbrev pub GoesBack : ProcessorState → ProcessorState → Pointstamp → Type 0
GoesBack old new x = fin.get old.requests x ≡ Some tt → with_request new x ≡ old

-- the state with another epoch for the token of a vertex; None removes the token
abbrev pub with_token : ProcessorState → ℕ → Option ℕ → ProcessorState
with_token q vertex epoch = record q { tokens = with_value q.tokens vertex epoch }

-- the state with another number for an item of a vertex; None removes the item
abbrev pub with_number : ProcessorState → ℕ → Time → ℤ → Option ℤ → ProcessorState
with_number q vertex t item n = record q { items = with_vertex_item q.items vertex (item_key t item) n }

-- the state with n added to what is unsent at x
abbrev pub with_more_unsent : ProcessorState → Pointstamp → ℤ → ProcessorState
with_more_unsent q x n = record q { unsent = more_unsent q.unsent x n }

-- the state with n subtracted from what is unsent at x
abbrev pub with_fewer_unsent : ProcessorState → Pointstamp → ℤ → ProcessorState
with_fewer_unsent q x n = with_more_unsent q x (neg_ℤ n)

-- the processor has an unsent entry at x
abbrev pub HasUnsent : ProcessorState → Pointstamp → Type 0
HasUnsent q x = at q.unsent x ≢ pos 0

-- with n added, the unsent entry at x would exceed its limit
abbrev pub IsUnsentTooLarge : ProcessorState → Pointstamp → ℤ → Type 0
IsUnsentTooLarge q x n = max_count < unsigned_abs (at q.unsent x +ℤ n)

-- the state with a part added to what is unsent
abbrev pub with_part : ProcessorState → DeltaValue → ProcessorState
with_part q part = record q { unsent = plus q.unsent part }

-- the state with a part subtracted from what is unsent
abbrev pub without_part : ProcessorState → DeltaValue → ProcessorState
without_part q part = record q { unsent = minus q.unsent part }
