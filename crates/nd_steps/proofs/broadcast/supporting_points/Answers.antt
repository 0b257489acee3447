use Rattle.std.proofs.Common.{◌≡◌, [], ◌∷◌, ◌++◌, map, ap, sym, ◌∙◌}
use Rattle.std.specs.Prelude.{filter}
use Rattle.std.specs.Map.Iter.{deref_pair}
use Rattle.std.proofs.lemmas.Map.Iter.{rest_more}
use Rattle.nd_graph.specs.Operators.{facts}
use Rattle.nd_paths.specs.declared.point.Pointstamp.{Pointstamp}
use Rattle.nd_steps.specs.Refusals.{supporting_points, supports_at}
use Rattle.nd_steps.proofs.SupportLemmas.{kept_more, passed_over}
use Rattle.nd_steps.proofs.broadcast.supporting_points.Goals as goal

pub loop-point-init : goal.loop-point-init
loop-point-init g c =
    (λ i. c.in-Ok.ensures i ++ filter (supports_at c.args.graph.now) (map (λ (e : Pointstamp × Unit {0}). e.0) ((c.into_iter-point-iterator.ensures.into_iter_gives ∙ c.requests-point-items.ensures.rest) i)))

pub loop-point-preserved-in-Continue-1 : goal.loop-point-preserved-in-Continue-1
loop-point-preserved-in-Continue-1 g c =
    let e : Pointstamp × Unit {0} = (c.in-Some.point.now, c.in-Some.field-0-1.now) in
    let step : c.loop-point.point-iterator ≡ e ∷ c.next.new.self = rest_more deref_pair c.loop-point.point-iterator c.next.new.self c.next.result (c.in-Some.point, c.in-Some.field-0-1) c.in-Some.is c.next.ensures.steps in
    kept_more (supports_at c.args.graph.now) c.loop-point.points.items (supporting_points c.args.graph.now c.args.processor.now) e c.loop-point.point-iterator c.next.new.self step c.loop-point.invariant
    (ap (λ o. (facts o).supports) (sym c.op_at.ensures.op) ∙ sym c.supports.ensures ∙ c.if-supports.true) c.push.new.self.items
    (c.in_ok-push.ensures.items ∙ ap (λ x. c.loop-point.points.items ++ x ∷ []) c.copy.ensures)

pub loop-point-preserved : goal.loop-point-preserved
loop-point-preserved g c =
    let e : Pointstamp × Unit {0} = (c.in-Some.point.now, c.in-Some.field-0-1.now) in
    let step : c.loop-point.point-iterator ≡ e ∷ c.next.new.self = rest_more deref_pair c.loop-point.point-iterator c.next.new.self c.next.result (c.in-Some.point, c.in-Some.field-0-1) c.in-Some.is c.next.ensures.steps in
    passed_over (supports_at c.args.graph.now) c.loop-point.points.items (supporting_points c.args.graph.now c.args.processor.now) e c.loop-point.point-iterator c.next.new.self step c.loop-point.invariant
    (ap (λ o. (facts o).supports) (sym c.op_at.ensures.op) ∙ sym c.supports.ensures ∙ c.if-supports.false)
