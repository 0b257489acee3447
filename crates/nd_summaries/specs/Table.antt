-- The table of an accepted graph.
use Rattle.std.specs.Prelude.{◌≡◌, ◌≢◌, ℕ, ◌+◌, ◌<◌, ◌≤◌, All, Contains, List, [], length, map, slice_index_or}
use Rattle.std.specs.List.{AllPairs}
use Rattle.nd_time.specs.Limits.{max_depth}
use Rattle.nd_graph.specs.Graph.{ArcAgrees, Dataflow, arcs, depths}
use Rattle.nd_time.specs.declared.order.TimeOrder.{TimeOrder}
use Rattle.nd_summaries.specs.declared.summary.Summary.{Summary}
use Rattle.nd_time.specs.Order.{AreAtMost}
use Rattle.nd_summaries.specs.Walk.{IsAcceptedBy}
use Rattle.nd_summaries.specs.Summary.{applied}
use Rattle.nd_summaries.specs.Row.{IsRow}
use Rattle.nd_summaries.specs.Shared.{named}

-- the row of lists that numbers name
abbrev pub named_row : List (List Summary) → List ℕ → List (List Summary)
named_row lists numbers = map (λ n. named lists n) numbers

-- the graph is accepted and not too deep, no list stands twice, and for each location there is a row of numbers, which name the
-- minimal summaries of its walks
pub record IsTable (o : TimeOrder) (g : Dataflow) (lists : List (List Summary)) (rows : List (List ℕ)) : Type 0 where
  pub agree : All (ArcAgrees (depths g)) (arcs g)
  pub shallow : All (λ d. d ≤ max_depth) (depths g)
  pub accepted : IsAcceptedBy o g
  pub count : length rows ≡ length (depths g)
  pub small : (a : ℕ) → a < length (depths g) → All (λ n. n < length lists) (slice_index_or rows a [])
  pub minimal : (a : ℕ) → a < length (depths g) → IsRow o g a (named_row lists (slice_index_or rows a []))
  pub once : AllPairs (λ s t. s ≢ t) lists

-- the summary applies to times of depth d, and leaves times of depth e
abbrev pub Fit : ℕ → ℕ → Summary → Type 0
Fit d e u = (u.keep ≤ d) × (u.keep + length u.constants ≡ e)

-- one of the summaries turns the counters c into counters that are at most d
abbrev pub SomeLeads : TimeOrder → List Summary → List ℕ → List ℕ → Type 0
SomeLeads o list c d = (u : Summary) × Contains list u × AreAtMost o (applied u c) d
