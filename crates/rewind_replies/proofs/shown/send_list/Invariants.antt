use Rattle.std.proofs.Common.{map, drop}
use Rattle.nd_state_json.specs.Sent.{SentBefore}
use Rattle.rewind_replies.proofs.shown.send_list.Given as goal

abbrev pub invariant-loop-item : goal.invariant-loop-item
invariant-loop-item g l = SentBefore (map (g.T.Shown.shown (g.N.Names.graph l.names)) (drop l.item-index l.items)) (map (g.T.Shown.shown (g.N.Names.graph l.names)) l.items) (g.S.Serializer.written l.initial.out) (g.S.Serializer.written l.out)
