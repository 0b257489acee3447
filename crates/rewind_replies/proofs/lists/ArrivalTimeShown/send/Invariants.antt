use Rattle.std.proofs.Common.{map, drop}
use Rattle.nd_state_json.specs.Sent.{SentBefore}
use Rattle.nd_state_json.specs.StateText.{natural}
use Rattle.rewind_replies.proofs.lists.ArrivalTimeShown.send.Given as goal

abbrev pub invariant-loop-counter : goal.invariant-loop-counter
invariant-loop-counter g l = SentBefore (map natural (drop l.counter-index l.counters)) (map natural l.counters) (g.S.Serializer.written l.initial.out) (g.S.Serializer.written l.out)
