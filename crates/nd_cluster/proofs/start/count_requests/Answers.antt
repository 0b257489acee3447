use Rattle.std.proofs.Common.{◌≡◌, ◌*◌, pos, ◌+ℤ◌, ◌∷◌, ap, arith}
use Rattle.std.proofs.lemmas.Int.{ints}
use Rattle.std.specs.Map.Iter.{deref_pair}
use Rattle.std.proofs.lemmas.Map.Iter.{rest_more}
use Rattle.nd_paths.specs.declared.point.Pointstamp.{Pointstamp}
use Rattle.nd_delta.specs.Delta.{at}
use Rattle.nd_cluster.specs.Starting.{requests_weigh}
use Rattle.nd_cluster.proofs.Starts.{requests_turn, requests_end}
use Rattle.nd_cluster.proofs.start.count_requests.Goals as goal

pub loop-point-init : goal.loop-point-init
loop-point-init g c = λ x. ap (λ es. at c.args.counted.now x +ℤ pos (c.args.n * requests_weigh es x)) c.into_iter-point-iterator.ensures.into_iter_gives

pub loop-point-preserved : goal.loop-point-preserved
loop-point-preserved g c =
    let e : Pointstamp × Unit {0} = (c.in-Some.point.now, c.in-Some.field-0-1.now) in
    let step : c.loop-point.point-iterator ≡ e ∷ c.next.new.self = rest_more deref_pair c.loop-point.point-iterator c.next.new.self c.next.result (c.in-Some.point, c.in-Some.field-0-1) c.in-Some.is c.next.ensures.steps in
    requests_turn c.loop-point.point-iterator c.next.new.self e c.args.n _ c.loop-point.counted c.add.new.self step (omega (arith, ints, c.from.ensures)) c.in-Ok.ensures.ok
    (λ x. at c.args.counted.now x +ℤ pos (c.args.n * requests_weigh c.args.requests x)) c.loop-point.invariant

pub returns : goal.returns
returns g c = λ x. requests_end c.loop-point.point-iterator c.args.n (at c.loop-point.counted x) _ x c.in-None.ensures.steps.0 (c.loop-point.invariant x)
