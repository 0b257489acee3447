-- Walks of a bounded length suffice, and minimal summaries decide the order of times.
use Rattle.std.specs.Prelude.{ℕ, ◌*◌, ◌≤◌, Contains, List, length}
use Rattle.nd_graph.specs.declared.graph.Arc.{Arc}
use Rattle.nd_graph.specs.Graph.{Dataflow, location_count}
use Rattle.nd_time.specs.declared.order.TimeOrder.{TimeOrder}
use Rattle.nd_time.specs.Order.{IsAtOrBeforeBy}
use Rattle.nd_time.specs.Time.{Time}
use Rattle.nd_summaries.specs.declared.summary.Summary.{Summary}
use Rattle.nd_summaries.specs.Walk.{IsWalk}
use Rattle.nd_summaries.specs.Summary.{applied, AtMost, IsSummaryOf}
use Rattle.nd_summaries.specs.Steps.{keeps}

-- some walk with the same ends has at most as many arcs as there are locations, times that there are depths, and its summary is at
-- most that of this walk
pub record HasShortWalk (order : TimeOrder) (g : Dataflow) (from to : ℕ) (walk : List Arc) : Type 0 where
  pub short : List Arc
  pub leads : IsWalk g from short to
  pub few : length short ≤ keeps * location_count g
  pub its : Summary
  pub its_is : IsSummaryOf g from short its
  pub whole : Summary
  pub whole_is : IsSummaryOf g from walk whole
  pub most : AtMost order its whole

-- one of the summaries turns the time s into one at or before t
abbrev pub SomeTurns : TimeOrder → List Summary → Time → Time → Type 0
SomeTurns order list s t =
    (u : Summary) × Contains list u × IsAtOrBeforeBy order (record { epoch = s.epoch; counters = applied u s.counters }) t
