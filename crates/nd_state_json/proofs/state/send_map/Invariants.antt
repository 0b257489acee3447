use Rattle.std.proofs.Common.{map}
use Rattle.nd_state_json.specs.Sent.{SentBefore}
use Rattle.nd_state_json.proofs.state.send_map.Given as goal

abbrev pub invariant-loop-key : goal.invariant-loop-key
invariant-loop-key g l = SentBefore (map (g.K.Listed.listed l.graph) l.key-iterator) (map (g.K.Listed.listed l.graph) l.fn.entries) (g.S.Serializer.written l.initial.out) (g.S.Serializer.written l.out)
