use Rattle.std.proofs.Common.{map, drop}
use Rattle.nd_state_json.specs.Sent.{SentBefore}
use Rattle.rewind_replies.specs.Reasons.{held_data}
use Rattle.rewind_replies.proofs.reasons.HeldAtShown.send.Given as goal

abbrev pub invariant-loop-held : goal.invariant-loop-held
invariant-loop-held g l =
    let all = l.self.held.now in
    let one = held_data (g.N.Names.graph l.names) l.self.point.now.location in
    SentBefore (map one (drop l.held-index all)) (map one all) (g.S.Serializer.written l.initial.out) (g.S.Serializer.written l.out)
