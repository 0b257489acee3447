use Rattle.std.proofs.Common.{drop}
use Rattle.nd_state_json.specs.Sent.{SentBefore}
use Rattle.nd_state_json.specs.StateText.{items_data}
use Rattle.nd_state_json.proofs.Shown.{items_from}
use Rattle.nd_state_json.proofs.state.send_items.Given as goal

abbrev pub invariant-loop-vertex : goal.invariant-loop-vertex
invariant-loop-vertex g l = SentBefore (items_from l.graph l.vertex (drop l.vertex l.processor.items)) (items_data l.graph l.processor) (g.S.Serializer.written l.initial.out) (g.S.Serializer.written l.out)
