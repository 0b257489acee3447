-- The state of one processor, and what is outstanding in it (Naiad, SOSP 2013, sections 2.3 and 3.3; FORTE 2013).
use Rattle.std.specs.Prelude.{ℕ, ◌+◌, cond, List, [], slice_index_or, sum_by, refl}
use Rattle.std.specs.Coded.{Coded, code_by, coded×, coded_ℕ, coded_list}
use Rattle.std.specs.Ordering.{nat_cmp}
use Rattle.std.specs.FinMap as fin
use Rattle.std.specs.FinSet as finset
use Rattle.nd_paths.specs.Point.{point_cmp, point_code}
use Rattle.nd_paths.specs.declared.point.Pointstamp.{Pointstamp}
use Rattle.nd_map.specs.Counts.{Counts, naturals, code, entries, none as no_counts}
use Rattle.nd_map.specs.Weights.{weight}
use Rattle.nd_delta.specs.Delta.{DeltaValue, none, is_point, delta_code}
use Rattle.nd_vertex.specs.Items.{Items, items_code}
use Rattle.nd_processor.specs.Keys.{value_at_cmp, sink_cmp, value_at_code, sink_code}
use Rattle.nd_processor.specs.declared.key.ValueAt.{ValueAt}

-- the pointstamps of requests: for a notification, or to hold a capability
abbrev pub Requests : Type 0
Requests = fin.FinMap point_cmp (Unit {0})

-- the state of one processor; no map contains a 0, except for the epochs of tokens
pub record ProcessorState : Type 0 where
  -- the number of records of each value at each pointstamp of an edge
  pub records : Counts value_at_cmp naturals
  -- the pointstamps of vertices at which there is a request
  pub requests : Requests
  -- the epoch of each input vertex that is open
  pub tokens : fin.FinMap nat_cmp ℕ
  -- the items of each vertex
  pub items : List Items
  -- how often each sink vertex has counted each value
  pub sinks : Counts sink_cmp naturals
  -- the progress updates that are not yet sent
  pub unsent : DeltaValue

-- a processor in which everything is empty
abbrev pub idle : ProcessorState
idle = record { records = no_counts; requests = fin.empty; tokens = fin.empty; items = []; sinks = no_counts; unsent = none }

-- the items of the vertex at a location
abbrev pub items_at : ProcessorState → ℕ → Items
items_at q vertex = slice_index_or q.items vertex no_counts

-- ---- what is outstanding

-- the pointstamp of an input vertex's token
abbrev pub token_point : ℕ → ℕ → Pointstamp
token_point vertex epoch = record { location = vertex; time = record { epoch = epoch; counters = [] } }

-- 1 at a pointstamp itself, 0 elsewhere
abbrev pub one_at : Pointstamp → Pointstamp → ℕ
one_at p x = cond (is_point x p) 1 0

-- the number of records at the pointstamp x; `in_requests` and `in_tokens` are the same for requests and tokens
abbrev pub in_records : Counts value_at_cmp naturals → Pointstamp → ℕ
in_records m x = weight (λ (k : ValueAt) n. cond (is_point x k.point) n 0) (entries m)

abbrev pub in_requests : Requests → Pointstamp → ℕ
in_requests s x = sum_by (λ p. one_at p x) (fin.keys s)

abbrev pub in_tokens : fin.FinMap nat_cmp ℕ → Pointstamp → ℕ
in_tokens m x = weight (λ v e. one_at (token_point v e) x) (fin.entries m)

-- how much is outstanding at a pointstamp
abbrev pub held : ProcessorState → Pointstamp → ℕ
held q x = in_records q.records x + (in_requests q.requests x + in_tokens q.tokens x)

-- ---- codes

abbrev pub processor_code : Coded ProcessorState
processor_code =
    code_by _ (coded× (code value_at_code coded_ℕ) (coded× (finset.code point_code) (coded× (fin.code coded_ℕ coded_ℕ) (coded× (coded_list items_code) (coded× (code sink_code coded_ℕ) delta_code)))))
    (λ q. (q.records, (q.requests, (q.tokens, (q.items, (q.sinks, q.unsent))))))
    (λ t. record { records = t.0; requests = t.1.0; tokens = t.1.1.0; items = t.1.1.1.0; sinks = t.1.1.1.1.0; unsent = t.1.1.1.1.1 })
    (λ _. refl)
