use Rattle.std.proofs.Common.{map, drop}
use Rattle.nd_delta.specs.Delta.{entries}
use Rattle.nd_mesh.specs.Mesh.{queue}
use Rattle.nd_state_json.specs.Sent.{SentBefore}
use Rattle.nd_state_json.specs.StateText.{entries_data}
use Rattle.nd_state_json.proofs.state.send_queue.Given as goal

abbrev pub invariant-loop-i : goal.invariant-loop-i
invariant-loop-i g l =
    let all = queue l.mesh l.from l.to in
    SentBefore (map (λ c. entries_data l.graph (entries c)) (drop l.i all)) (map (λ c. entries_data l.graph (entries c)) all) (g.S.Serializer.written l.initial.out) (g.S.Serializer.written l.out)
