use Rattle.std.proofs.Common.{map, drop}
use Rattle.nd_state_json.specs.Sent.{SentBefore}
use Rattle.nd_state_json.specs.StateText.{queues_data}
use Rattle.nd_state_json.proofs.state.send_queues.Given as goal

abbrev pub invariant-loop-from : goal.invariant-loop-from
invariant-loop-from g l = SentBefore (map (queues_data l.graph) (drop l.from l.mesh)) (map (queues_data l.graph) l.mesh) (g.S.Serializer.written l.initial.out) (g.S.Serializer.written l.out)
