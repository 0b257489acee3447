use Rattle.std.proofs.Common.{arith}
use Rattle.std.proofs.lemmas.Result.{on_ok_weaker}
use Rattle.nd_state_json.specs.SentLaws.{sent-list}
use Rattle.nd_state_json.specs.StateText.{queues_data}
use Rattle.nd_state_json.proofs.state.send_queues.Goals as goal

pub returns : goal.returns
returns g c =
    on_ok_weaker c.end_seq.result
    (sent-list (queues_data c.args.graph.now) c.args.mesh.now c.loop-from.from _ _ _ _ _ (omega (arith, c.loop-from-test.false, c.n-from-end.ensures.value)) c.n.ensures.value
    c.loop-from.invariant c.in_ok-begin_seq.ensures) c.end_seq.ensures
