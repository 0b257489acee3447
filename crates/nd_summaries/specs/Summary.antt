-- Path summaries: what walks do to loop counters, in one step.
use Rattle.std.specs.Prelude.{◌≡◌, ◌⊎◌, ℕ, ◌+◌, ◌-◌, ◌<◌, ◌≤◌, All, Contains, List, [], ◌∷◌, ◌++◌, length, take, cond, nat_lt, nat_eq, slice_index_or}
use Rattle.std.specs.List.{AllPairs}
use Rattle.std.specs.declared.cmp.Ordering.{Ordering}
use Rattle.std.specs.declared.cmp.Ordering.TheVariants.{Less}
use Rattle.std.specs.Ordering.{nat_cmp, ordering_then}
use Rattle.std.specs.Cmp.Lexicographic.{slice_cmp}
use Rattle.nd_time.specs.Limits.{max_depth, max_counter}
use Rattle.nd_time.specs.Time.{IsLexicallyAtMost}
use Rattle.nd_graph.specs.declared.graph.Arc.{Arc}
use Rattle.nd_graph.specs.Graph.{Dataflow}
use Rattle.nd_time.specs.declared.order.TimeOrder.{TimeOrder}
use Rattle.nd_time.specs.declared.order.TimeOrder.TheVariants.{Lexicographic, Product}
use Rattle.nd_summaries.specs.declared.summary.Summary.{Summary}
use Rattle.nd_time.specs.Order.{IsEachAtMost}
use Rattle.nd_summaries.specs.Walk.{IsWalk, effect, HasDepth}

-- the list with a added to its last number
abbrev pub raised : ℕ → List ℕ → List ℕ
raised a [] = []
raised a (x ∷ []) = (x + a) ∷ []
raised a (x ∷ y ∷ rest) = x ∷ raised a (y ∷ rest)

-- the counters after a summary: it keeps the outermost ones, adds to the last of those, and appends its constants
abbrev pub applied : Summary → List ℕ → List ℕ
applied s counters = raised s.add (take s.keep counters) ++ s.constants

-- how many counters a summary leaves
abbrev pub left_by : Summary → ℕ
left_by s = s.keep + length s.constants

-- the summary of a walk with summary s, followed by a walk with summary t
abbrev pub composed : Summary → Summary → Summary
composed s t =
    cond (nat_lt s.keep t.keep)
    (record { keep = s.keep; add = s.add; constants = applied (record { keep = t.keep - s.keep; add = t.add; constants = t.constants }) s.constants })
    (record { keep = t.keep; add = cond (nat_eq s.keep t.keep) (s.add + t.add) t.add; constants = t.constants })

-- no number is above the limit of a counter, and at most max_depth counters are left
pub record IsInLimits (s : Summary) : Type 0 where
  pub add : s.add ≤ max_counter
  pub constants : All (λ x. x ≤ max_counter) s.constants
  pub depth : left_by s ≤ max_depth

-- s is the summary of a walk: it does to all counters of the first location's depth what the walk does
pub record IsSummaryOf (g : Dataflow) (from : ℕ) (walk : List Arc) (s : Summary) : Type 0 where
  pub depth : ℕ
  pub has_depth : HasDepth g from depth
  pub kept : s.keep ≤ depth
  pub top : s.keep ≡ 0 → s.add ≡ 0
  pub does : (counters : List ℕ) → length counters ≡ depth → applied s counters ≡ effect walk counters

-- s adds at most as much as t, and its constants are at most those of t: lexicographically, first what is added and then the
-- constants; or by product, each by itself
abbrev pub AddsAtMost : TimeOrder → Summary → Summary → Type 0
AddsAtMost Lexicographic s t = (s.add < t.add) ⊎ ((s.add ≡ t.add) × IsLexicallyAtMost s.constants t.constants)
AddsAtMost Product s t = (s.add ≤ t.add) × IsEachAtMost s.constants t.constants

-- s is at most t: both keep the same number of counters and leave the same number, and s adds at most as much
pub record AtMost (order : TimeOrder) (s t : Summary) : Type 0 where
  pub keep : s.keep ≡ t.keep
  pub size : length s.constants ≡ length t.constants
  pub least : AddsAtMost order s t

-- the order in which summaries are listed: those that keep more first, then by what they add, then by the constants
abbrev pub listing_cmp : Summary → Summary → Ordering
listing_cmp s t =
    ordering_then (nat_cmp t.keep s.keep) (ordering_then (nat_cmp s.add t.add) (slice_cmp nat_cmp s.constants t.constants))

abbrev pub IsListedBefore : Summary → Summary → Type 0
IsListedBefore s t = listing_cmp s t ≡ Less

-- s is the summary of a walk, and a walk whose summary is at most s has the summary s
pub record IsMinimalSummary (order : TimeOrder) (g : Dataflow) (from to : ℕ) (s : Summary) : Type 0 where
  pub walk : List Arc
  pub leads : IsWalk g from walk to
  pub summary : IsSummaryOf g from walk s
  pub minimal : (w : List Arc) (t : Summary) → IsWalk g from w to → IsSummaryOf g from w t → AtMost order t s → t ≡ s

-- the list has each minimal summary of a walk, no other and none twice, in the order of listing; so each walk has one in the list
-- that is at most its own
pub record AreMinimalSummaries (order : TimeOrder) (g : Dataflow) (from to : ℕ) (list : List Summary) : Type 0 where
  pub each : All (IsMinimalSummary order g from to) list
  pub all : (s : Summary) → IsMinimalSummary order g from to s → Contains list s
  pub listed : AllPairs IsListedBefore list
  pub below : (w : List Arc) → IsWalk g from w to
      → (t : Summary) × IsSummaryOf g from w t × ((s : Summary) × Contains list s × AtMost order s t)

-- ---- the lexicographic order

-- s is the summary of a walk, and the least summary of the walks that keep the same number of counters
pub record IsLeastSummary (g : Dataflow) (from to : ℕ) (s : Summary) : Type 0 where
  pub walk : List Arc
  pub leads : IsWalk g from walk to
  pub summary : IsSummaryOf g from walk s
  pub least : (w : List Arc) (t : Summary) → IsWalk g from w to → IsSummaryOf g from w t → s.keep ≡ t.keep → AddsAtMost Lexicographic s t

-- the list has the least summary for each number of counters that some walk keeps, the greatest number first
pub record AreLeastSummaries (g : Dataflow) (from to : ℕ) (list : List Summary) : Type 0 where
  pub each : All (IsLeastSummary g from to) list
  pub all : (w : List Arc) → IsWalk g from w to → (t : Summary) × IsSummaryOf g from w t × ((s : Summary) × Contains list s × (s.keep ≡ t.keep))
  pub falling : (i j : ℕ) (d : Summary) → i < j → j < length list → (slice_index_or list j d).keep < (slice_index_or list i d).keep
