use Rattle.std.proofs.Common.{◌≡◌, ◌∷◌, ℤ, ap, subst, ◌∙◌, arith}
use Rattle.std.proofs.lemmas.Int.{ints}
use Rattle.std.specs.Map.Iter.{deref_pair}
use Rattle.std.proofs.lemmas.Map.Iter.{rest_more}
use Rattle.nd_paths.specs.declared.point.Pointstamp.{Pointstamp}
use Rattle.nd_view.specs.Rows.{joined}
use Rattle.nd_view.proofs.Anew.{IsPickedUpTo, picked_none, picked_skip, picked_take, picked_fresh, picked_all}
use Rattle.nd_view.proofs.keeping.positive_points.Goals as goal

pub loop-point-init : goal.loop-point-init
loop-point-init g c =
    picked_none c.args.counts.now c.into_iter-point-iterator.result (joined c.new-positive.result) (c.into_iter-point-iterator.ensures.into_iter_gives ∙ c.iter-point-items.ensures.rest) (ap joined c.new-positive.ensures)

pub put-requires-clause-fresh : goal.put-requires-clause-fresh
put-requires-clause-fresh g c =
    let m = c.args.counts.now in
    let e : Pointstamp × ℤ = (c.in-Some.point.now, c.in-Some.n.now) in
    let es = joined c.loop-point.positive in
    let step : c.loop-point.point-iterator ≡ e ∷ c.next.new.self = rest_more deref_pair c.loop-point.point-iterator c.next.new.self c.next.result (c.in-Some.point, c.in-Some.n) c.in-Some.is c.next.ensures.steps in
    picked_fresh m e c.next.new.self es (subst (λ l. IsPickedUpTo m l es) step c.loop-point.invariant)

pub loop-point-preserved-in-Continue-1 : goal.loop-point-preserved-in-Continue-1
loop-point-preserved-in-Continue-1 g c =
    let m = c.args.counts.now in
    let e : Pointstamp × ℤ = (c.in-Some.point.now, c.in-Some.n.now) in
    let es = joined c.loop-point.positive in
    let step : c.loop-point.point-iterator ≡ e ∷ c.next.new.self = rest_more deref_pair c.loop-point.point-iterator c.next.new.self c.next.result (c.in-Some.point, c.in-Some.n) c.in-Some.is c.next.ensures.steps in
    let h : IsPickedUpTo m (e ∷ c.next.new.self) es = subst (λ l. IsPickedUpTo m l es) step c.loop-point.invariant in
    picked_take m e c.next.new.self es h (joined c.put.new.self) 1 c.in_ok-put.ensures.ok c.in_ok-put.ensures.listed (omega (arith, ints, c.if-n-gt0.true))

pub loop-point-preserved : goal.loop-point-preserved
loop-point-preserved g c =
    let m = c.args.counts.now in
    let e : Pointstamp × ℤ = (c.in-Some.point.now, c.in-Some.n.now) in
    let es = joined c.loop-point.positive in
    let step : c.loop-point.point-iterator ≡ e ∷ c.next.new.self = rest_more deref_pair c.loop-point.point-iterator c.next.new.self c.next.result (c.in-Some.point, c.in-Some.n) c.in-Some.is c.next.ensures.steps in
    let h : IsPickedUpTo m (e ∷ c.next.new.self) es = subst (λ l. IsPickedUpTo m l es) step c.loop-point.invariant in
    picked_skip m e c.next.new.self es h (λ up. absurd (omega (arith, ints, up, c.if-n-gt0.false)))

pub returns : goal.returns
returns g c = picked_all c.args.counts.now c.loop-point.point-iterator (joined c.loop-point.positive) c.in-None.ensures.steps.0 c.loop-point.invariant
