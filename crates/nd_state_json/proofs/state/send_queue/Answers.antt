use Rattle.std.proofs.Common.{◌≡◌, get_or, ap, sym, ◌∙◌, arith, rules}
use Rattle.std.proofs.lemmas.Option.{get_or_from_slice_get}
use Rattle.std.proofs.lemmas.Result.{on_ok_weaker}
use Rattle.std.specs.Prelude.{option_copied}
use Rattle.nd_delta.specs.Delta.{DeltaValue, entries}
use Rattle.nd_mesh.specs.Mesh.{queue}
use Rattle.nd_state_json.specs.SentLaws.{sent-more, sent-list}
use Rattle.nd_state_json.specs.StateText.{entries_data}
use Rattle.nd_state_json.proofs.state.send_queue.Goals as goal

pub loop-i-preserved : goal.loop-i-preserved
loop-i-preserved g c =
    let changes = queue c.args.mesh.now c.args.from c.args.to in
    let i = c.loop-i.i in
    let change = c.unwrap-change.result.now in
    let is : get_or changes i change ≡ change = get_or_from_slice_get changes i change change (sym c.get.ensures.value ∙ ap option_copied c.unwrap-change.ensures) in
    sent-more (λ (d : DeltaValue). entries_data c.args.graph.now (entries d)) changes i change _ _ _ _ (omega (arith, c.loop-i-test.true, c.len-i-end.ensures.value)) (sym is)
    c.loop-i.invariant (rw (sym c.entries.ensures.listed) c.in_ok-send_entries.ensures)

pub returns : goal.returns
returns g c =
    on_ok_weaker c.end_seq.result
    (sent-list (λ (d : DeltaValue). entries_data c.args.graph.now (entries d)) (queue c.args.mesh.now c.args.from c.args.to) c.loop-i.i _ _ _ _ _ (omega (arith, c.loop-i-test.false, c.len-i-end.ensures.value)) (search rules)
    c.loop-i.invariant c.in_ok-begin_seq.ensures) c.end_seq.ensures
