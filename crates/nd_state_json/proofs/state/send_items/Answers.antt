use Rattle.std.proofs.Common.{◌∙◌, ap, sym, drop, arith}
use Rattle.std.proofs.lemmas.List.{drop_all}
use Rattle.std.proofs.lemmas.Result.{on_ok_weaker}
use Rattle.nd_map.specs.Counts.{entries, none}
use Rattle.nd_state_json.specs.SentLaws.{array-sent, sent-all}
use Rattle.nd_state_json.specs.StateText.{items_data}
use Rattle.nd_state_json.proofs.Shown.{items_from, items-count, items-more}
use Rattle.nd_state_json.proofs.state.send_items.Goals as goal

pub loop-vertex-preserved : goal.loop-vertex-preserved
loop-vertex-preserved g c =
    items-more c.args.graph.now c.args.processor.now.items c.loop-vertex.vertex none c.entries.result _ _ _ _ (omega arith) (c.entries.ensures.listed ∙ ap entries c.vertex_state.ensures)
    c.loop-vertex.invariant c.in_ok-send_items_of.ensures

pub returns : goal.returns
returns g c =
    let q = c.args.processor.now in
    let v = c.loop-vertex.vertex in
    let rest = items_from c.args.graph.now v (drop v q.items) in
    let all = sent-all rest (items_data c.args.graph.now q) _ _ (ap (items_from c.args.graph.now v) (drop_all v q.items (omega arith))) c.loop-vertex.invariant in
    on_ok_weaker c.end_seq.result
    (array-sent (items_data c.args.graph.now q) _ _ _ _ _ (c.in-Some.ensures ∙ sym (items-count c.args.graph.now 0 q.items)) c.in_ok-begin_seq.ensures all) c.end_seq.ensures
