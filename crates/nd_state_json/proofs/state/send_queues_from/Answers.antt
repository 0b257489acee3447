use Rattle.std.proofs.Common.{◌≡◌, ◌∙◌, [], length, sym, arith}
use Rattle.std.proofs.lemmas.Result.{on_ok_weaker}
use Rattle.nd_mesh.specs.Mesh.{row as queues_from}
use Rattle.nd_state_json.specs.SentLaws.{sent-list}
use Rattle.nd_state_json.specs.StateText.{queue_data}
use Rattle.nd_state_json.proofs.state.send_queues_from.Goals as goal

pub returns : goal.returns
returns g c =
    let queues = queues_from c.args.mesh.now c.args.from in
    let wide : length queues ≡ length c.args.mesh.now = c.n-to-end.ensures.mesh.square c.args.from [] c.requires in
    on_ok_weaker c.end_seq.result
    (sent-list (queue_data c.args.graph.now) queues c.loop-to.to _ _ _ _ _ (omega (arith, c.loop-to-test.false, c.n-to-end.ensures.value, wide)) (c.n.ensures.value ∙ sym wide)
    c.loop-to.invariant c.in_ok-begin_seq.ensures) c.end_seq.ensures
