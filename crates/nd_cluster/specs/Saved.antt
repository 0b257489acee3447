-- The part of a cluster that steps change, saved without the graph.
use Rattle.std.specs.Prelude.{◌≡◌, All}
use Rattle.nd_graph.specs.Graph.{Dataflow}
use Rattle.nd_view.specs.Kept.{IsFor}
use Rattle.nd_protocol.specs.State.{ClusterState}
use Rattle.nd_protocol.specs.Fitting.{IsState}
use Rattle.nd_protocol.specs.Seen.{seen}
use Rattle.nd_cluster.specs.declared.saved.Saved.{Saved}

-- the state of a cluster with this graph and what is saved
abbrev pub state_in : {A : Type 0} → Dataflow → Saved A → ClusterState
state_in g v = seen g v.processors.items v.views.items v.mesh

-- a cluster with this graph may be in the saved state
pub record FitsIn {A : Type 0} (g : Dataflow) (v : Saved A) : Type 0 where
  pub state : IsState (state_in g v)
  pub paths : All (IsFor g) v.views.items

-- v is the part of the state s that steps change
pub record IsSaved {A : Type 0} (s : ClusterState) (v : Saved A) : Type 0 where
  pub value : state_in s.graph v ≡ s
  pub fits : FitsIn s.graph v
