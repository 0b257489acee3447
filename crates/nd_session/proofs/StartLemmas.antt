-- What an initial state is.
use Rattle.std.proofs.Common.{◌≡◌, All, sym, subst}
use Rattle.nd_graph.specs.Graph.{Dataflow, ArcAgrees, arcs, depths}
use Rattle.nd_graph.specs.Checked.{IsFaultless}
use Rattle.nd_protocol.specs.State.{ClusterState}
use Rattle.nd_protocol.specs.Start.{start}
use Rattle.nd_protocol.specs.Fitting.{IsOrdered, IsState}
use Rattle.nd_protocol.specs.Invariant.{KeepsProtocol}
use Rattle.nd_protocol.specs.Laws.{StartIsState, StartKeepsProtocol}
use Rattle.nd_session.specs.Log.{IsStart}

-- the state has its graph
graph_is : (s : ClusterState) (is : IsStart s) → s.graph ≡ is.graph
unfolding start
graph_is s is i = (is.is i).graph

-- a graph was built, so its edges join vertices and its depths agree along its arcs
module _ (s : ClusterState) (is : IsStart s) (sound : IsFaultless s.graph) (agree : All (ArcAgrees (depths s.graph)) (arcs s.graph)) where
  faultless : IsFaultless is.graph
  faultless = subst IsFaultless (graph_is s is) sound

  ordered : IsOrdered is.graph
  ordered = record { joined = faultless.joined; agree = subst (λ (g : Dataflow). All (ArcAgrees (depths g)) (arcs g)) (graph_is s is) agree; accepted = is.accepted }

  pub is_state : StartIsState → IsState s
  is_state law = subst IsState (sym is.is) (law is.graph is.count faultless ordered is.some is.few)

  pub keeps_protocol : StartKeepsProtocol → KeepsProtocol s
  keeps_protocol law = subst KeepsProtocol (sym is.is) (law is.graph is.count ordered)
