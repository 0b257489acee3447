-- What is found of the walks from one location, round by round. A row has a list of summaries for each location.
use Rattle.std.specs.Prelude.{◌≡◌, ◌⊎◌, ℕ, ◌-◌, ◌<◌, ◌≤◌, All, Contains, ◌==◌, ◌&&◌, not, List, [], ◌∷◌, ◌++◌, length, Vec, slice_index_or, slice_set}
use Rattle.std.specs.List.{AllPairs, filter}
use Rattle.std.specs.Ordering.{is_lt}
use Rattle.nd_time.specs.Limits.{max_depth, max_counter}
use Rattle.nd_graph.specs.declared.graph.Arc.{Arc}
use Rattle.nd_graph.specs.declared.op.Action.TheVariants.{Ingress}
use Rattle.nd_graph.specs.Graph.{Dataflow, arcs, depths}
use Rattle.nd_time.specs.declared.order.TimeOrder.{TimeOrder}
use Rattle.nd_summaries.specs.declared.summary.Summary.{Summary}
use Rattle.nd_summaries.specs.declared.row.Reached.{Reached}
use Rattle.nd_summaries.specs.Walk.{IsWalk}
use Rattle.nd_summaries.specs.Summary.{AtMost, IsListedBefore, listing_cmp}
use Rattle.nd_summaries.specs.Steps.{at_most, step, summary_of, IsWithin}

-- ---- a list of summaries

-- one of the list is at most s
abbrev pub IsCovered : TimeOrder → List Summary → Summary → Type 0
IsCovered order list s = (t : Summary) × Contains list t × AtMost order t s

-- those of the list that are listed before s
abbrev pub listed_before : Summary → List Summary → List Summary
listed_before s list = filter (λ t. is_lt (listing_cmp t s)) list

-- those of the list that are listed after s, and that s is not at most
abbrev pub left_after : TimeOrder → Summary → List Summary → List Summary
left_after order s list = filter (λ t. is_lt (listing_cmp s t) && not (at_most order s t)) list

-- the list with s at its place, without those that s is at most
abbrev pub with_summary : TimeOrder → Summary → List Summary → List Summary
with_summary order s list = listed_before s list ++ s ∷ left_after order s list

-- the list is in the order of listing, and none of it is at most another
pub record IsNeat (order : TimeOrder) (list : List Summary) : Type 0 where
  pub ordered : AllPairs IsListedBefore list
  pub apart : (s t : Summary) → Contains list s → Contains list t → AtMost order s t → s ≡ t

-- ---- arcs by the location that they leave

abbrev pub leaving : ℕ → List Arc → List Arc
leaving l arcs = filter (λ x. x.from == l) arcs

-- the rows have the arcs that leave each location
pub record AreLeaving {A : Type 0} (arcs : List Arc) (rows : List (Vec Arc A)) : Type 0 where
  pub each : (l : ℕ) (d : Vec Arc A) → l < length rows → (slice_index_or rows l d).items ≡ leaving l arcs
  pub within : All (λ x. x.from < length rows) arcs

-- ---- one round

-- the summaries of a row for a location
abbrev pub listed : List (List Summary) → ℕ → List Summary
listed row b = slice_index_or row b []

abbrev pub reached : ℕ → Summary → Reached
reached b s = record { location = b; summary = s }

-- s is added to the list of the location b and to the queue, unless one of the list is at most it
abbrev pub Reaches : TimeOrder → List (List Summary) → List (List Summary) → List Reached → List Reached → ℕ → Summary → Type 0
Reaches order old new queue longer b s =
    ((new ≡ old) × (longer ≡ queue) × IsCovered order (listed old b) s)
    ⊎ ((new ≡ slice_set old b (with_summary order s (listed old b))) × (longer ≡ queue ++ reached b s ∷ [])
    × (IsCovered order (listed old b) s → ⊥))

-- each arc can extend the items at its start: its end is in the row, and no limit is exceeded
abbrev pub CanFollow : List Arc → ℕ → List Reached → Type 0
CanFollow arcs count last =
    (r : Reached) (x : Arc) → Contains last r → Contains arcs x → x.from ≡ r.location
    → (x.to < count) × ((x.action ≡ Ingress → length r.summary.constants < max_depth) × IsWithin (max_counter - 1) r.summary)

-- the item is one of the last extended by an arc
abbrev pub Follows : List Arc → List Reached → Reached → Type 0
Follows arcs last r =
    (q : Reached) × (x : Arc) × Contains last q × Contains arcs x × (x.from ≡ q.location) × (r ≡ reached x.to (step x.action q.summary))

-- what was covered stays covered, what is new is in the queue, and what is in the queue extends one of the last
pub record Grown (order : TimeOrder) (arcs : List Arc) (old new : List (List Summary)) (last next : List Reached) : Type 0 where
  pub long : length new ≡ length old
  pub kept : (b : ℕ) (s : Summary) → IsCovered order (listed old b) s → IsCovered order (listed new b) s
  pub fresh : (b : ℕ) (s : Summary) → Contains (listed new b) s → Contains (listed old b) s ⊎ Contains next (reached b s)
  pub neat : ((b : ℕ) → IsNeat order (listed old b)) → (b : ℕ) → IsNeat order (listed new b)
  pub from : All (Follows arcs last) next

-- the item, extended by each arc, is covered
abbrev pub IsFollowed : TimeOrder → List Arc → List (List Summary) → Reached → Type 0
IsFollowed order arcs row r =
    (x : Arc) → Contains arcs x → x.from ≡ r.location → IsCovered order (listed row x.to) (step x.action r.summary)

-- a whole round
pub record IsRound (order : TimeOrder) (arcs : List Arc) (old new : List (List Summary)) (last next : List Reached) : Type 0 where
  pub grown : Grown order arcs old new last next
  pub followed : All (IsFollowed order arcs new) last

-- ---- all rounds

-- a walk of at most n arcs leads from a to b and has the summary s
abbrev pub Arrives : Dataflow → ℕ → ℕ → ℕ → Summary → Type 0
Arrives g a n b s = (w : List Arc) × IsWalk g a w b × (s ≡ summary_of g a w) × (length w ≤ n)

-- after n rounds: what is found are summaries of walks of at most n arcs, each of these walks is covered, and each summary is one of
-- the last or its extension by each arc is covered
pub record Rounds (order : TimeOrder) (g : Dataflow) (a : ℕ) (row : List (List Summary)) (last : List Reached) (n : ℕ) : Type 0 where
  pub long : length row ≡ length (depths g)
  pub neat : (b : ℕ) → IsNeat order (listed row b)
  pub walks : (b : ℕ) (s : Summary) → Contains (listed row b) s → Arrives g a n b s
  pub queue : All (λ r. Arrives g a n r.location r.summary) last
  pub covers : (w : List Arc) (b : ℕ) → length w ≤ n → IsWalk g a w b → IsCovered order (listed row b) (summary_of g a w)
  pub followed : (x : Arc) (s : Summary) → Contains (arcs g) x → Contains (listed row x.from) s
      → Contains last (reached x.from s) ⊎ IsCovered order (listed row x.to) (step x.action s)

-- the row from a: its summaries are those of walks, none is at most another, and each walk has one at most its own
pub record IsRow (order : TimeOrder) (g : Dataflow) (a : ℕ) (row : List (List Summary)) : Type 0 where
  pub long : length row ≡ length (depths g)
  pub neat : (b : ℕ) → IsNeat order (listed row b)
  pub walks : (b : ℕ) (s : Summary) → Contains (listed row b) s → (w : List Arc) × IsWalk g a w b × (s ≡ summary_of g a w)
  pub covers : (w : List Arc) (b : ℕ) → IsWalk g a w b → IsCovered order (listed row b) (summary_of g a w)

-- ---- which locations fail

-- one of the summaries, extended by the arc, adds nothing
abbrev pub Closes : List Summary → Arc → Type 0
Closes list x = (s : Summary) × Contains list s × ((step x.action s).add ≡ 0)

-- what shows that the location l fails: a summary that some arc extends to a closed walk, which adds nothing
abbrev pub ShowsFail : List Arc → ℕ → List (List Summary) → Type 0
ShowsFail arcs l row = (x : Arc) × Contains arcs x × (x.to ≡ l) × Closes (listed row x.from) x
