-- The times that can still arrive at a location, according to a view (in timely dataflow the frontier of
-- a probe).
use Rattle.std.specs.Prelude.{◌≡◌, ◌<◌, ℕ, ℤ, pos, ◌<ℤ◌, All, Contains, List, length, slice_index_or, ◌↔◌}
use Rattle.std.specs.declared.cmp.Ordering.TheVariants.{Less}
use Rattle.nd_time.specs.Time.{Time}
use Rattle.nd_time.specs.Order.{IsAtOrBeforeBy}
use Rattle.nd_time.specs.declared.order.TimeOrder.{TimeOrder}
use Rattle.nd_time.specs.Listing.{time_cmp}
use Rattle.nd_graph.specs.Graph.{Dataflow}
use Rattle.nd_summaries.specs.Walk.{HasDepth}
use Rattle.nd_paths.specs.Arrival.{TurnsInto, HasAtOrBefore, CoverAll}
use Rattle.nd_paths.specs.declared.point.Pointstamp.{Pointstamp}
use Rattle.nd_delta.specs.Delta.{DeltaValue, at}
use Rattle.nd_view.specs.View.{IsPassed}

-- some walk turns the time of a point at which v is positive into t at the location x
pub record CanArrive (g : Dataflow) (v : DeltaValue) (x : ℕ) (t : Time) : Type 0 where
  pub source : Pointstamp
  pub positive : pos 0 <ℤ at v source
  pub turns : TurnsInto g source x t

-- t can arrive at x, and no other time at or before it can
pub record IsFirstArrival (g : Dataflow) (v : DeltaValue) (x : ℕ) (t : Time) : Type 0 where
  pub arrives : CanArrive g v x t
  pub first : (u : Time) → CanArrive g v x u → IsAtOrBeforeBy g.order u t → u ≡ t

-- the times are in the order of listing, by epoch, then by counters, and no time occurs twice
abbrev pub AreRising : List Time → Type 0
AreRising times =
    (i j : ℕ) (d : Time) → i < j → j < length times
    → time_cmp (slice_index_or times i d) (slice_index_or times j d) ≡ Less

-- these are the minimal times that can arrive at x, each once, in the order of listing
pub record AreArrivals (g : Dataflow) (v : DeltaValue) (x : ℕ) (times : List Time) : Type 0 where
  pub each : All (IsFirstArrival g v x) times
  pub all : (t : Time) → IsFirstArrival g v x t → Contains times t
  pub rising : AreRising times

-- a time of the location's depth is passed there exactly if none of these times is at or before it
abbrev pub AreExact : Dataflow → DeltaValue → ℕ → List Time → Type 0
AreExact g v x times =
    (t : Time) → HasDepth g x (length t.counters)
    → IsPassed g v (record { location = x; time = t }) ↔ (HasAtOrBefore g.order times t → ⊥)

-- none of these times is at or before another by the order
abbrev pub AreApart : TimeOrder → List Time → Type 0
AreApart order times =
    (i j : ℕ) (d : Time) → i < length times → j < length times
    → IsAtOrBeforeBy order (slice_index_or times i d) (slice_index_or times j d) → i ≡ j

-- ---- how they are found

-- some walk turns the time of one of these entries into each of these times, and each time at x that one of the entries could
-- result in has one of these at or before it
pub record AreReached (g : Dataflow) (es : List (Pointstamp × ℤ)) (x : ℕ) (times : List Time) : Type 0 where
  pub each : All (λ t. (e : Pointstamp × ℤ) × Contains es e × TurnsInto g e.0 x t) times
  pub least : (e : Pointstamp × ℤ) → Contains es e → CoverAll g e.0 x times

-- the minimal ones of these times by the order, each once, in the order of listing
pub record AreMinimal (order : TimeOrder) (times minimal : List Time) : Type 0 where
  pub among : All (Contains times) minimal
  pub covers : (t : Time) → Contains times t → HasAtOrBefore order minimal t
  pub apart : AreApart order minimal
  pub rising : AreRising minimal
