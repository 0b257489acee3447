-- The times into which walks turn the time of a pointstamp.
use Rattle.std.specs.Prelude.{◌≡◌, ℕ, Contains, List}
use Rattle.nd_time.specs.Time.{Time}
use Rattle.nd_time.specs.Order.{IsAtOrBeforeBy}
use Rattle.nd_time.specs.declared.order.TimeOrder.{TimeOrder}
use Rattle.nd_graph.specs.declared.graph.Arc.{Arc}
use Rattle.nd_graph.specs.Graph.{Dataflow}
use Rattle.nd_paths.specs.declared.point.Pointstamp.{Pointstamp}
use Rattle.nd_summaries.specs.declared.summary.Summary.{Summary}
use Rattle.nd_summaries.specs.Summary.{applied}
use Rattle.nd_summaries.specs.Walk.{IsWalk, effect}
use Rattle.nd_paths.specs.Order.{Fits, CouldResultIn}

-- s fits the graph, and some walk from its location to the location x turns its time into t
pub record TurnsInto (g : Dataflow) (s : Pointstamp) (x : ℕ) (t : Time) : Type 0 where
  pub fits : Fits g s
  pub walk : List Arc
  pub leads : IsWalk g s.location walk x
  pub time : t ≡ record { epoch = s.time.epoch; counters = effect walk s.time.counters }

-- one of these times is at or before t by the order
abbrev pub HasAtOrBefore : TimeOrder → List Time → Time → Type 0
HasAtOrBefore order times t = (u : Time) × Contains times u × IsAtOrBeforeBy order u t

-- each time at x that s could result in has one of these times at or before it
abbrev pub CoverAll : Dataflow → Pointstamp → ℕ → List Time → Type 0
CoverAll g s x times =
    (t : Time) → CouldResultIn g s (record { location = x; time = t }) → HasAtOrBefore g.order times t

-- if some walk turns the time of a pointstamp into t, the pointstamp could result in t at the end of the walk
abbrev pub WalksLeadOn : Dataflow → Type 0
WalksLeadOn g =
    (s : Pointstamp) (x : ℕ) (t : Time) → TurnsInto g s x t
    → CouldResultIn g s (record { location = x; time = t })

-- ---- the same by summaries

-- the time into which a summary turns the time t
abbrev pub turned : Summary → Time → Time
turned s t = record { epoch = t.epoch; counters = applied s t.counters }
