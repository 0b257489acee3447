use Rattle.std.proofs.Common.{map, drop}
use Rattle.std.specs.List.{zip}
use Rattle.nd_state_json.specs.Sent.{SentBefore}
use Rattle.nd_state_json.specs.StateText.{processor_data}
use Rattle.nd_state_json.proofs.state.send_processors.Given as goal

abbrev pub invariant-loop-p : goal.invariant-loop-p
invariant-loop-p g l =
    let s = l.parts in
    let all = zip s.processors s.views in
    SentBefore (map (λ e. processor_data s.graph e.0 e.1) (drop l.p all)) (map (λ e. processor_data s.graph e.0 e.1) all) (g.S.Serializer.written l.initial.out) (g.S.Serializer.written l.out)
