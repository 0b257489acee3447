use Rattle.std.proofs.Common.{◌∙◌, map, ap, sym}
use Rattle.std.proofs.lemmas.List.{length-map}
use Rattle.std.proofs.lemmas.Result.{on_ok_weaker}
use Rattle.nd_state_json.specs.SentLaws.{array-sent, sent-all}
use Rattle.nd_state_json.proofs.state.send_map.Goals as goal

pub returns : goal.returns
returns g c =
    let shown = g.K.Listed.listed c.args.graph.now in
    let all = sent-all (map shown c.loop-key.key-iterator) (map shown c.args.entries) _ _ (ap (map shown) c.in-None.ensures.steps.0) c.loop-key.invariant in
    on_ok_weaker c.end_seq.result
    (array-sent (map shown c.args.entries) c.args.count _ _ _ _ (c.requires ∙ sym (length-map c.args.entries shown)) c.in_ok-begin_seq.ensures all) c.end_seq.ensures
