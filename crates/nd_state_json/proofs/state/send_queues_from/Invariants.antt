use Rattle.std.proofs.Common.{map, drop}
use Rattle.nd_mesh.specs.Mesh.{row}
use Rattle.nd_state_json.specs.Sent.{SentBefore}
use Rattle.nd_state_json.specs.StateText.{queue_data}
use Rattle.nd_state_json.proofs.state.send_queues_from.Given as goal

abbrev pub invariant-loop-to : goal.invariant-loop-to
invariant-loop-to g l =
    let all = row l.mesh l.from in
    SentBefore (map (queue_data l.graph) (drop l.to all)) (map (queue_data l.graph) all) (g.S.Serializer.written l.initial.out) (g.S.Serializer.written l.out)
