use Rattle.std.proofs.Common.{◌≡◌, ◌<◌, [], length, get_or, ap, ◌∙◌, arith}
use Rattle.std.proofs.lemmas.List.{get_or_default}
use Rattle.nd_processor.specs.State.{ProcessorState, idle}
use Rattle.nd_why.specs.Why.{in_turn, held_by}
use Rattle.nd_why.proofs.Turns.{turn_more}
use Rattle.nd_why.proofs.holdings.held_at.Goals as goal

pub loop-p-preserved : goal.loop-p-preserved
loop-p-preserved g c =
    let ps = c.args.processors.now in
    let p = c.loop-p.p in
    let r = c.index-processors-p.result in
    let b = c.args.point.now in
    let lt : p < length ps = omega arith in
    turn_more [] c.loop-p.held.items c.push_held.new.held.items (held_by p r b) p (λ k. held_by k (get_or ps k idle) b) c.loop-p.invariant c.in_ok-push_held.ensures
    (ap (λ (x : ProcessorState). held_by p x b) (c.index-processors-p.is ∙ get_or_default ps p r idle lt))

pub returns : goal.returns
returns g c =
    let ps = c.args.processors.now in
    let all : c.loop-p.p ≡ length ps = omega arith in
    c.loop-p.invariant ∙ ap (λ n. in_turn n (λ k. held_by k (get_or ps k idle) c.args.point.now)) all
