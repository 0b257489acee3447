use Rattle.std.proofs.Common.{map, drop}
use Rattle.nd_state_json.specs.Sent.{SentBefore}
use Rattle.nd_state_json.proofs.sent.send_list.Given as goal

abbrev pub invariant-loop-entry : goal.invariant-loop-entry
invariant-loop-entry g l = SentBefore (map (g.K.Listed.listed l.graph) (drop l.entry-index l.entries)) (map (g.K.Listed.listed l.graph) l.entries) (g.S.Serializer.written l.initial.out) (g.S.Serializer.written l.out)
