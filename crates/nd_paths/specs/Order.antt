-- The order of pointstamps, by the timestamp order of the graph. (Naiad, SOSP 2013, section 2.3.)
use Rattle.std.specs.Prelude.{◌≢◌, ℕ, List, length}
use Rattle.nd_time.specs.Order.{IsAtOrBeforeBy}
use Rattle.nd_graph.specs.declared.graph.Arc.{Arc}
use Rattle.nd_graph.specs.Graph.{Dataflow}
use Rattle.nd_summaries.specs.Walk.{IsWalk, effect, HasDepth, FailsBy, IsAcceptedBy}
use Rattle.nd_paths.specs.declared.point.Pointstamp.{Pointstamp}

-- the pointstamp is at a location of the graph, and its time has that location's depth
pub record Fits (g : Dataflow) (x : Pointstamp) : Type 0 where
  pub depth : HasDepth g x.location (length x.time.counters)

-- s could result in t: some walk turns s's time into one at or before t's
pub record CouldResultIn (g : Dataflow) (s t : Pointstamp) : Type 0 where
  pub fits_s : Fits g s
  pub fits_t : Fits g t
  pub walk : List Arc
  pub leads : IsWalk g s.location walk t.location
  pub before : IsAtOrBeforeBy g.order (record { epoch = s.time.epoch; counters = effect walk s.time.counters }) t.time

-- s could result in t, and s is not t
abbrev pub IsStrictlyBefore : Dataflow → Pointstamp → Pointstamp → Type 0
IsStrictlyBefore g s t = CouldResultIn g s t × (s ≢ t)

-- some closed walk from the location l, which is not empty, turns a time of l's depth into one at or before it
abbrev pub FailsAt : Dataflow → ℕ → Type 0
FailsAt g l = FailsBy g.order g l

-- no closed walk that is not empty turns a time of its depth into one at or before it
abbrev pub IsAccepted : Dataflow → Type 0
IsAccepted g = IsAcceptedBy g.order g
