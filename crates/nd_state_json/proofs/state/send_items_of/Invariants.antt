use Rattle.std.proofs.Common.{map}
use Rattle.nd_state_json.specs.Sent.{SentBefore}
use Rattle.nd_state_json.specs.StateText.{item_data}
use Rattle.nd_state_json.proofs.state.send_items_of.Given as goal

abbrev pub invariant-loop-key : goal.invariant-loop-key
invariant-loop-key g l = SentBefore (map (item_data l.graph l.vertex) l.key-iterator) (map (item_data l.graph l.vertex) l.fn.entries) (g.S.Serializer.written l.initial.out) (g.S.Serializer.written l.out)
