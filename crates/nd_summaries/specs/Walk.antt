-- Walks, the graphs that are accepted, and what a time could result in.
-- (Naiad, SOSP 2013, sections 2.1 and 2.3.)
use Rattle.std.specs.Prelude.{◌≡◌, ℕ, List, [], ◌∷◌, length, Some, Contains, min, slice_get, slice_index}
use Rattle.nd_time.specs.Time.{Time}
use Rattle.nd_graph.specs.declared.graph.Arc.{Arc}
use Rattle.nd_graph.specs.declared.op.Action.TheVariants.{Feedback}
use Rattle.nd_graph.specs.Graph.{Dataflow, arcs, acted, depths}
use Rattle.nd_time.specs.declared.order.TimeOrder.{TimeOrder}
use Rattle.nd_time.specs.Order.{AreAtMost, IsAtOrBeforeBy}

-- a list of arcs that leads from one location to another; each arc begins where the arc before it ends
abbrev pub IsWalk : Dataflow → ℕ → List Arc → ℕ → Type 0
IsWalk g from [] to = from ≡ to
IsWalk g from (arc ∷ walk) to = Contains (arcs g) arc × (arc.from ≡ from) × IsWalk g arc.to walk to

-- the loop counters after a walk
abbrev pub effect : List Arc → List ℕ → List ℕ
effect [] counters = counters
effect (arc ∷ walk) counters = effect walk (acted arc.action counters)

-- the location has times of this depth
abbrev pub HasDepth : Dataflow → ℕ → ℕ → Type 0
HasDepth g l depth = slice_get (depths g) l ≡ Some depth

-- the time s at one location could result in the time t at another: some walk turns s into a time at or before t
pub record LeadsBefore (order : TimeOrder) (g : Dataflow) (from : ℕ) (s : Time) (to : ℕ) (t : Time) : Type 0 where
  pub depth_s : HasDepth g from (length s.counters)
  pub depth_t : HasDepth g to (length t.counters)
  pub walk : List Arc
  pub leads : IsWalk g from walk to
  pub before : IsAtOrBeforeBy order (record { epoch = s.epoch; counters = effect walk s.counters }) t

-- ---- which graphs are accepted

-- the walk turns some counters of the depth of its first location into some that are at most them
pub record TurnsBack (order : TimeOrder) (g : Dataflow) (from : ℕ) (walk : List Arc) : Type 0 where
  pub counters : List ℕ
  pub depth : HasDepth g from (length counters)
  pub back : AreAtMost order (effect walk counters) counters

-- some closed walk from the location l, which is not empty, turns a time of l's depth into one at or before it
pub record FailsBy (order : TimeOrder) (g : Dataflow) (l : ℕ) : Type 0 where
  pub arc : Arc
  pub walk : List Arc
  pub closed : IsWalk g l (arc ∷ walk) l
  pub back : TurnsBack order g l (arc ∷ walk)

-- no closed walk that is not empty turns a time of its depth into one at or before it; that the depths agree holds of each graph
pub record IsAcceptedBy (order : TimeOrder) (g : Dataflow) : Type 0 where
  pub strict : (l : ℕ) → FailsBy order g l → ⊥

-- the least depth of the locations on a walk
abbrev pub least_depth : Dataflow → ℕ → List Arc → ℕ
least_depth g from [] = slice_index (depths g) from
least_depth g from (arc ∷ walk) = min (slice_index (depths g) from) (least_depth g arc.to walk)

-- the walk passes a feedback of this depth
abbrev pub PassesFeedback : Dataflow → List Arc → ℕ → Type 0
PassesFeedback g walk depth =
    (arc : Arc) × Contains walk arc × (arc.action ≡ Feedback) × (slice_index (depths g) arc.from ≡ depth)
