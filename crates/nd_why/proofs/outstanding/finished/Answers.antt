use Rattle.std.proofs.Common.{◌≡◌, ◌<◌, ◌≤◌, length, get_or, refl, sym, subst, ◌∙◌, true≢false, below_more}
use Rattle.std.proofs.lemmas.List.{get_or_default}
use Rattle.nd_graph.specs.Graph.{Dataflow}
use Rattle.nd_processor.specs.State.{ProcessorState, held}
use Rattle.nd_why.specs.Why.{HasBefore}
use Rattle.nd_why.proofs.Before.{finished_if, unfinished_if}
use Rattle.nd_why.proofs.outstanding.finished.Goals as goal

pub loop-processor-preserved : goal.loop-processor-preserved
loop-processor-preserved g c =
    let s = c.args.parts.now in
    let ps = s.processors in
    let i = c.loop-processor.processor-index in
    let r = c.processor-item.result in
    let lt : i < length ps = rw c.processors-processor-items.ensures at c.loop-processor-test.true in
    let is : r ≡ get_or ps i r = rw c.processors-processor-items.ensures at c.processor-item.is in
    below_more _ _ c.loop-processor.invariant
    (λ d h. true≢false (sym (c.if-holds_before.ensures.1 (subst (λ (e : Dataflow × ProcessorState). HasBefore e.0 c.args.extent c.args.point.now (held e.1)) (λ j. (sym c.paths.ensures j, sym (is ∙ get_or_default ps i r d lt) j)) h))))

pub returns-then-holds_before : goal.returns-then-holds_before
returns-then-holds_before g c =
    let s = c.args.parts.now in
    let ps = s.processors in
    let i = c.loop-processor.processor-index in
    let r = c.processor-item.result in
    let lt : i < length ps = rw c.processors-processor-items.ensures at c.loop-processor-test.true in
    let is : r ≡ get_or ps i r = rw c.processors-processor-items.ensures at c.processor-item.is in
    let some : HasBefore s.graph c.args.extent c.args.point.now (held r)
    = subst (λ (k : Dataflow). HasBefore k c.args.extent c.args.point.now (held r)) c.paths.ensures (c.if-holds_before.ensures.0 refl) in (
      λ e. absurd (true≢false (sym e)),
      λ f. absurd (unfinished_if s.graph c.args.extent c.args.point.now ps i r lt is some f),
    )

pub returns : goal.returns
returns g c =
    let s = c.args.parts.now in
    let past : length s.processors ≤ c.loop-processor.processor-index = rw c.processors-processor-items.ensures at c.loop-processor-test.false in
    (λ _. finished_if s.graph c.args.extent c.args.point.now s.processors c.loop-processor.processor-index past c.loop-processor.invariant, λ _. refl)
