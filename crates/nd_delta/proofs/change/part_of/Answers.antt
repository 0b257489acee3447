use Rattle.std.proofs.Common.{cond, pos, sym, ap, ◌∙◌, arith}
use Rattle.std.proofs.lemmas.List.{take_all}
use Rattle.nd_delta.specs.Delta.{at, set, has_point, part, same, at-part}
use Rattle.nd_delta.proofs.Sums.{kept, split_none, next_point, one_more}
use Rattle.nd_delta.proofs.change.part_of.Goals as goal

pub loop-point-init : goal.loop-point-init
loop-point-init g c = split_none c.new-kept.ensures

pub loop-point-preserved : goal.loop-point-preserved
loop-point-preserved g c =
    let x = c.point-item.result in
    one_more x c.loop-point.invariant (c.in_ok-put.ensures.ok ∙ ap (set c.loop-point.kept x) (kept c.integer.result (omega (arith, c.integer.ensures.within)) ∙ c.integer.ensures.value))
    (next_point c.args.points.now c.loop-point.point-index x c.loop-point-test.true c.point-item.is)

pub returns-clause-ok : goal.returns-clause-ok
returns-clause-ok g c =
    let m = g.C.Change.change c.args.change.now in
    let ps = c.args.points.now in
    same c.loop-point.kept (part m ps) (λ q. c.loop-point.invariant.value q ∙ ap (λ ks. cond (has_point q ks) (at m q) (pos 0)) (take_all c.loop-point.point-index ps c.loop-point-test.false) ∙ sym (at-part m ps q))
