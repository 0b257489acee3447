use Rattle.std.proofs.Common.{◌≡◌, ◌∙◌, ◌<◌, length, get_or, sym, arith}
use Rattle.std.proofs.lemmas.List.{get_or_default}
use Rattle.std.proofs.lemmas.Result.{on_ok_weaker}
use Rattle.std.proofs.lemmas.Slice.Zip.{length-zip, get_or-zip}
use Rattle.std.specs.List.{zip}
use Rattle.nd_delta.specs.Delta.{DeltaValue, none}
use Rattle.nd_processor.specs.State.{ProcessorState, idle}
use Rattle.nd_protocol.specs.State.{processor, view}
use Rattle.nd_state_json.specs.SentLaws.{sent-more, sent-list}
use Rattle.nd_state_json.specs.StateText.{processor_data}
use Rattle.nd_state_json.proofs.state.send_processors.Goals as goal

pub loop-p-preserved : goal.loop-p-preserved
loop-p-preserved g c =
    let s = c.args.parts.now in
    let p = c.loop-p.p in
    let x = processor s p in
    let y = view s p in
    let first : p < length s.processors = omega (arith, c.loop-p-test.true, c.n-p-end.ensures) in
    let second : p < length s.views = omega (arith, first, c.requires) in
    let here : ◌≡◌ {A = ProcessorState × DeltaValue} (x, y) (get_or (zip s.processors s.views) p (x, y))
    = (λ i. (get_or_default s.processors p idle x first i, get_or_default s.views p none y second i)) ∙ sym (get_or-zip s.processors s.views p (x, y) first second) in
    sent-more (λ (e : ProcessorState × DeltaValue). processor_data s.graph e.0 e.1) (zip s.processors s.views) p (x, y) _ _ _ _ (omega (arith, first, c.requires, length-zip s.processors s.views)) here
    c.loop-p.invariant
    (rw (c.graph.ensures, c.processor.ensures, c.view.ensures.map) at c.in_ok-send_processor.ensures)

pub returns : goal.returns
returns g c =
    let s = c.args.parts.now in
    on_ok_weaker c.end_seq.result
    (sent-list (λ (e : ProcessorState × DeltaValue). processor_data s.graph e.0 e.1) (zip s.processors s.views) c.loop-p.p _ _ _ _ _ (omega (arith, c.loop-p-test.false, c.n-p-end.ensures, c.requires, length-zip s.processors s.views)) (omega (arith, c.n.ensures, c.requires, length-zip s.processors s.views))
    c.loop-p.invariant c.in_ok-begin_seq.ensures) c.end_seq.ensures
