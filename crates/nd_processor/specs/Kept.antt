-- What a processor stores, as lists of entries, and the state that these lists represent.
use Rattle.std.specs.Prelude.{◌≢◌, ◌≤◌, ℕ, ◌+◌, ◌-◌, cond, FitsSigned, List, nat_eq}
use mir.Syntax.{w64}
use Rattle.std.specs.declared.cmp.Ordering.{Ordering}
use Rattle.std.specs.FinMap.{find, put, from_entries}
use Rattle.std.specs.BTreeMap.Range.{entries_between}
use Rattle.std.specs.declared.ops.Bound.TheVariants.{Included}
use Rattle.nd_time.specs.Limits.{max_count}
use Rattle.nd_map.specs.Listed.{without}
use Rattle.nd_map.specs.Kept as stored
use Rattle.nd_map.specs.Counts.{or_else, of_entries}
use Rattle.nd_paths.specs.declared.point.Pointstamp.{Pointstamp}
use Rattle.nd_delta.specs.Delta.{DeltaValue}
use Rattle.nd_vertex.specs.Items.{Items}
use Rattle.nd_processor.specs.Keys.{value_at_cmp, value_at_total, sink_total}
use Rattle.nd_processor.specs.State.{ProcessorState}
use Rattle.nd_processor.specs.declared.key.ValueAt.{ValueAt}
use Rattle.nd_processor.specs.declared.key.SinkKey.{SinkKey}

-- a count within the limit, and not 0
pub record IsCount (n : ℕ) : Type 0 where
  pub some : n ≢ 0
  pub within : n ≤ max_count

-- entries in the order of listing, each with such a count
abbrev pub IsKept : {K : Type 0} → (K → K → Ordering) → List (K × ℕ) → Type 0
IsKept R es = stored.IsKept R (λ _. IsCount) es

-- records, each with a value of 64 bits
pub record AreRecords (es : List (ValueAt × ℕ)) : Type 0 where
  pub values : stored.EachIs value_at_cmp (λ k _. FitsSigned w64 k.value) es

-- the count that a lookup finds at the key k; 0 if it finds nothing
abbrev pub number : {K : Type 0} → (K → K → Ordering) → List (K × ℕ) → K → ℕ
number R es k = or_else 0 (find R k es)

-- the entries with the count n at the key k; a count of 0 has no entry
abbrev pub put_count : {K : Type 0} → (K → K → Ordering) → K → ℕ → List (K × ℕ) → List (K × ℕ)
put_count R k n es = cond (nat_eq n 0) (without R k es) (put R k n es)

-- the entries with n added to the count at the key k; `put_fewer` subtracts n
abbrev pub put_more : {K : Type 0} → (K → K → Ordering) → K → ℕ → List (K × ℕ) → List (K × ℕ)
put_more R k n es = put_count R k (number R es k + n) es

abbrev pub put_fewer : {K : Type 0} → (K → K → Ordering) → K → ℕ → List (K × ℕ) → List (K × ℕ)
put_fewer R k n es = put_count R k (number R es k - n) es

-- the entries from one key to another, both included
abbrev pub from_to : {K : Type 0} → (K → K → Ordering) → K → K → List (K × ℕ) → List (K × ℕ)
from_to R first last es = entries_between R (Included first) (Included last) es

-- the state of a processor that stores these lists
abbrev pub seen : List (ValueAt × ℕ) → List (Pointstamp × Unit {0}) → List (ℕ × ℕ) → List Items → List (SinkKey × ℕ) → DeltaValue → ProcessorState
seen records requests tokens items sinks unsent =
    record {
      records = of_entries value_at_total records;
      requests = from_entries requests;
      tokens = from_entries tokens;
      items = items;
      sinks = of_entries sink_total sinks;
      unsent = unsent;
    }
