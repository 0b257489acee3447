use Rattle.std.proofs.Common.{List, map, subst}
use Rattle.std.proofs.lemmas.Result.{on_ok_weaker}
use Rattle.serde_json.specs.Events.{SendsValue}
use Rattle.nd_graph.specs.Graph.{Dataflow}
use Rattle.nd_delta.specs.Delta.{DeltaValue}
use Rattle.nd_state_json.specs.StateText.{queues_data, row, state_data}
use Rattle.nd_state_json.proofs.state.send_state.Goals as goal

pub returns : goal.returns
unfolding state_data
returns g c =
    let s = c.args.parts.now in
    let queues : SendsValue (row (map (queues_data s.graph) s.queues)) (g.S.Serializer.written c.key-2.new.self) (g.S.Serializer.written c.send_queues.new.out)
    = subst (λ (e : Dataflow × List (List (List DeltaValue))). SendsValue (row (map (queues_data e.0) e.1)) (g.S.Serializer.written c.key-2.new.self) (g.S.Serializer.written c.send_queues.new.out))
    (λ i. (c.graph.ensures i, c.mesh.ensures i)) c.in_ok-send_queues.ensures in
    on_ok_weaker c.end_map.result
    (λ ended. (
      _,
      c.in_ok-begin_map.ensures,
      (
        _,
        _,
        c.in_ok-key.ensures,
        c.in_ok-send_processors.ensures,
        (
          _,
          _,
          c.in_ok-key-2.ensures,
          queues,
          ended,
        ),
      ),
    ))
    c.end_map.ensures
