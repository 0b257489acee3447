use Rattle.std.proofs.Common.{map, drop}
use Rattle.nd_state_json.specs.Sent.{SentBefore}
use Rattle.nd_state_json.specs.Objects.{object_of}
use Rattle.rewind_replies.proofs.lists.KeptStepsShown.send.Given as goal

abbrev pub invariant-loop-i : goal.invariant-loop-i
invariant-loop-i g l =
    let all = l.timeline.kept in
    let object = object_of (g.N.Names.graph l.names) in
    SentBefore (map object (drop l.i all)) (map object all) (g.S.Serializer.written l.initial.out) (g.S.Serializer.written l.out)
