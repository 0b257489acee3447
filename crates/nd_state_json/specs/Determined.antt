-- The value of a state determines the state.
use Rattle.std.specs.Prelude.{◌≡◌, false}
use Rattle.nd_graph.specs.Graph.{names}
use Rattle.nd_graph.specs.Checked.{has_double}
use Rattle.nd_protocol.specs.State.{ClusterState}
use Rattle.nd_protocol.specs.Fitting.{IsState}
use Rattle.nd_state_json.specs.StateText.{state_data}

-- two states over one graph in which no name occurs twice, as in every graph that is accepted, are the same if their values are
abbrev pub ValuesDetermineStates : Type 0
ValuesDetermineStates =
    (s t : ClusterState) → IsState s → IsState t → has_double (names s.graph) ≡ false → s.graph ≡ t.graph → state_data s ≡ state_data t → s ≡ t
