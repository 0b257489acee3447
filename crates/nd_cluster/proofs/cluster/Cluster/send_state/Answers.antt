use Rattle.std.proofs.Common.{subst}
use Rattle.std.specs.Prelude.{OnOk}
use Rattle.serde_json.specs.Events.{SendsValue}
use Rattle.nd_protocol.specs.State.{ClusterState}
use Rattle.nd_state_json.specs.StateText.{state_data}
use Rattle.nd_cluster.proofs.cluster.Cluster.send_state.Goals as goal

pub send_state-requires : goal.send_state-requires
send_state-requires g c = c.self.invariant.fits.each_view

pub returns : goal.returns
returns g c =
    subst (λ (s : ClusterState). OnOk c.send_state.result (SendsValue (state_data s) (g.S.Serializer.written c.args.out.now) (g.S.Serializer.written c.send_state.new.out))) c.self.view_is c.send_state.ensures
