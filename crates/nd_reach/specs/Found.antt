-- The states that a search has found, by their forms, and how each was found.
use Rattle.std.specs.Prelude.{◌≡◌, ℕ, Bool, true, false, ◌+◌, ◌<◌, ◌≤◌, List, [], ◌∷◌, ◌++◌, length, map, Option, Some, None, IfSome, slice_get}
use Rattle.nd_protocol.specs.State.{ClusterState}
use Rattle.nd_protocol.specs.Steps.{after}
use Rattle.nd_protocol.specs.Fitting.{IsState}
use Rattle.nd_protocol.specs.declared.step.Step.{Step}
use Rattle.nd_steps.specs.declared.record.Record.{Record}
use Rattle.nd_cluster.specs.Records.{IsPlanned}
use Rattle.nd_cluster.specs.Saved.{IsSaved}
use Rattle.nd_breaks.specs.Conditions.{ConditionValue}
use Rattle.nd_reach.specs.Forms.{form}
use Rattle.nd_reach.specs.Reach.{HoldsAfter, HoldsNowhere}
use Rattle.nd_reach.specs.Search.{IsSearched, IsGoing}
use Rattle.nd_reach.specs.Ways.{AreFirst, AreAll}
use Rattle.nd_cluster.specs.declared.moves.Allowed.{Allowed}
use Rattle.nd_reach.specs.declared.node.Node.{Node}
use Rattle.nd_reach.specs.declared.search.End.{End}
use Rattle.nd_reach.specs.declared.search.End.TheVariants.{Hit, Full}

-- the move that led to the way w: none to the way without steps, and to each other the last step of the way, planned at the state
-- to which the way of the parent leads
abbrev pub IsMade : {A : Type 0} → ClusterState → List (List (Step A)) → ℕ → List (Step A) → ℕ → Option (Record A) → Type 0
IsMade s ways k w parent None = w ≡ []
IsMade {A} s ways k w parent (Some r) = record {
  earlier : List (Step A);
  there : slice_get ways parent ≡ Some earlier;
  before : parent < k;
  planned : IsPlanned r (after s earlier);
  longer : w ≡ earlier ++ r.step ∷ [];
}

-- the node of the way w, the one at the place k
pub record IsNode {A : Type 0} (s : ClusterState) (ways : List (List (Step A))) (k : ℕ) (w : List (Step A)) (node : Node A) : Type 0 where
  pub made : IsMade s ways k w node.parent node.made
  pub saved : IfSome node.saved (λ b. IsSaved (after s w) b.value)

-- a state of a cluster with the same graph and as many processors
pub record IsAlike (s t : ClusterState) : Type 0 where
  pub state : IsState t
  pub graph : t.graph ≡ s.graph
  pub many : length t.processors ≡ length s.processors

-- the forms of the states to which the ways lead, and the node of each
pub record AreFound {A : Type 0} (s : ClusterState) (ways : List (List (Step A))) (forms : List (List ℕ)) (nodes : List (Node A)) : Type 0 where
  pub forms_of : forms ≡ map (λ w. form (after s w)) ways
  pub many : length nodes ≡ length ways
  pub each : (k : ℕ) (w : List (Step A)) (node : Node A) → slice_get ways k ≡ Some w → slice_get nodes k ≡ Some node → IsNode s ways k w node
  pub alike : (k : ℕ) (w : List (Step A)) → slice_get ways k ≡ Some w → IsAlike s (after s w)

-- a search from s has found these nodes
abbrev pub WereFound : {A : Type 0} → ClusterState → List (Node A) → Type 0
WereFound {A} s nodes = (ways : List (List (Step A))) × (forms : List (List ℕ)) × AreFound s ways forms nodes

-- t is the state of the node at the place k, whichever ways from s the nodes are for
abbrev pub IsStateAt : {A : Type 0} → ClusterState → List (Node A) → ℕ → ClusterState → Type 0
IsStateAt {A} s nodes k t =
    (ways : List (List (Step A))) (forms : List (List ℕ)) (w : List (Step A)) → AreFound s ways forms nodes → slice_get ways k ≡ Some w → t ≡ after s w

-- v is the way of the node at the place k, whichever ways the nodes are for
abbrev pub IsWayAt : {A : Type 0} → List (Node A) → ℕ → List (Step A) → Type 0
IsWayAt {A} nodes k v =
    (s : ClusterState) (ways : List (List (Step A))) (forms : List (List ℕ)) (w : List (Step A)) → AreFound s ways forms nodes → slice_get ways k ≡ Some w → v ≡ w

-- ---- walks

-- t is the state to which the way at the place k leads
abbrev pub StandsAt : {A : Type 0} → ClusterState → List (List (Step A)) → ℕ → ClusterState → Type 0
StandsAt {A} s ways k t = (w : List (Step A)) → slice_get ways k ≡ Some w → t ≡ after s w

-- t is the state that a search has found at the place k
pub record IsSomewhere {A : Type 0} (nodes : List (Node A)) (k : ℕ) (t : ClusterState) : Type 0 where
  pub start : ClusterState
  pub ways : List (List (Step A))
  pub forms : List (List ℕ)
  pub found : AreFound start ways forms nodes
  pub there : StandsAt start ways k t

-- a walk from the state t to the state u: if t was found at the place `from`, u was found at the place `to`
abbrev pub Walks : {A : Type 0} → List (Node A) → ℕ → ℕ → ClusterState → ClusterState → Type 0
Walks {A} nodes from to t u = (s : ClusterState) (ways : List (List (Step A))) (forms : List (List ℕ)) → AreFound s ways forms nodes → StandsAt s ways from t → StandsAt s ways to u

-- ---- a search

-- what a search looks for: from which state, by which moves, for what, and among how many states
pub record Wanted : Type 0 where
  pub start : ClusterState
  pub allowed : Allowed
  pub when : ConditionValue
  pub limit : ℕ

-- a search that has expanded the states before the place `at`
pub record HasSearched {A : Type 0} (q : Wanted) (forms : List (List ℕ)) (nodes : List (Node A)) (at : ℕ) : Type 0 where
  pub ways : List (List (Step A))
  pub found : AreFound q.start ways forms nodes
  pub searched : IsSearched q.allowed q.start ways at
  pub none : HoldsNowhere q.when q.start ways
  pub within : length ways ≤ q.limit

-- the same, while the walker is at the state t, which was found at the place `last`
abbrev pub HasWalked : {A : Type 0} → Wanted → List (List ℕ) → List (Node A) → ℕ → ℕ → ClusterState → Type 0
HasWalked q forms nodes at last t = (h : HasSearched q forms nodes at) × StandsAt q.start h.ways last t

-- a search that goes on from the state t at the place `at`, by those of its moves that stand before the place `next`
pub record GoesOn {A : Type 0} (q : Wanted) (forms : List (List ℕ)) (nodes : List (Node A)) (at : ℕ) (t : ClusterState) (moves : List (Step A)) (next : ℕ) : Type 0 where
  pub ways : List (List (Step A))
  pub way : List (Step A)
  pub found : AreFound q.start ways forms nodes
  pub going : IsGoing q.allowed q.start ways at way moves next
  pub there : t ≡ after q.start way
  pub none : HoldsNowhere q.when q.start ways
  pub within : length ways ≤ q.limit

-- the condition holds at the state that was found last, and at none before
pub record IsHit {A : Type 0} (q : Wanted) (forms : List (List ℕ)) (nodes : List (Node A)) : Type 0 where
  pub earlier : List (List (Step A))
  pub last : List (Step A)
  pub found : AreFound q.start (earlier ++ last ∷ []) forms nodes
  pub first : AreFirst q.allowed q.start (earlier ++ last ∷ [])
  pub none : HoldsNowhere q.when q.start earlier
  pub there : HoldsAfter q.when q.start last
  pub within : length earlier < q.limit

-- the condition holds at none of the states that were found, which are as many as may be looked at, and there are others
pub record IsFull {A : Type 0} (q : Wanted) (nodes : List (Node A)) : Type 0 where
  pub ways : List (List (Step A))
  pub count : length nodes ≡ length ways
  pub first : AreFirst q.allowed q.start ways
  pub none : HoldsNowhere q.when q.start ways
  pub limit : length ways ≡ q.limit
  pub others : AreAll q.allowed q.start ways → ⊥

-- the search has ended
abbrev pub HasEnded : {A : Type 0} → Wanted → List (List ℕ) → List (Node A) → End → Type 0
HasEnded q forms nodes Hit = IsHit q forms nodes
HasEnded q forms nodes Full = IsFull q nodes

-- the search goes on with the next move, or has ended
abbrev pub HasTried : {A : Type 0} → Wanted → List (List ℕ) → List (Node A) → ℕ → ClusterState → List (Step A) → ℕ → Option End → Type 0
HasTried q forms nodes at t moves next None = GoesOn q forms nodes at t moves (next + 1)
HasTried q forms nodes at t moves next (Some end) = HasEnded q forms nodes end

-- the walker is where it was, unless the search has ended
abbrev pub Stays : Option End → ClusterState → ClusterState → Type 0
Stays None old new = new ≡ old
Stays (Some end) old new = Unit {0}

-- the condition holds at the start, or the search can go on from there
abbrev pub HasBegun : {A : Type 0} → Wanted → List (List ℕ) → List (Node A) → Bool → Type 0
HasBegun q forms nodes true = IsHit q forms nodes
HasBegun q forms nodes false = HasSearched q forms nodes 0

-- the search goes on with the next state, and the walker is at the state that was expanded; or the search has ended
abbrev pub HasExpanded : {A : Type 0} → Wanted → List (List ℕ) → List (Node A) → ℕ → ClusterState → Option End → Type 0
HasExpanded q forms nodes at t None = HasWalked q forms nodes (at + 1) at t
HasExpanded q forms nodes at t (Some end) = HasEnded q forms nodes end

-- all states that are reached were looked at, or the search has ended
abbrev pub HasRun : {A : Type 0} → Wanted → List (List ℕ) → List (Node A) → Option End → Type 0
HasRun q forms nodes None = HasSearched q forms nodes (length nodes)
HasRun q forms nodes (Some end) = HasEnded q forms nodes end
