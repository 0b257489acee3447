use Rattle.std.proofs.Common.{◌≤◌, unsigned_abs, ◌∙◌}
use Rattle.std.specs.Map.Iter.{deref_pair}
use Rattle.nd_time.specs.Limits.{max_count}
use Rattle.nd_delta.specs.Delta.{minus}
use Rattle.nd_delta.proofs.Sums.{lessened, lessens, stays_absent, stays_within, made_first, made_more, made_next, made_last}
use Rattle.nd_delta.proofs.large.LargeDelta.without.Goals as goal

pub loop-point-init : goal.loop-point-init
loop-point-init g c =
    made_first c.args.self.now (minus c.args.self.now c.args.part.now) c.into_iter-point-iterator.result c.new-made.result (c.into_iter-point-iterator.ensures.into_iter_gives ∙ c.iter-point-items.ensures.rest) c.new-made.ensures

pub overflow_sub-n : goal.overflow_sub-n
overflow_sub-n g c =
    let m = c.args.self.now in
    let next = made_next m (minus m c.args.part.now) deref_pair c.loop-point.point-iterator c.next.new.self c.next.result (c.in-Some.point, c.in-Some.n) c.in-Some.is c.next.ensures.steps c.loop-point.invariant in
    let small : unsigned_abs c.in-Some.n.now ≤ max_count = rw next.is (c.iter-point-items.ensures.within c.in-Some.point.now) in
    lessens c.in-Some.n.now c.get.result small c.get.ensures.within

pub put-requires : goal.put-requires
put-requires g c =
    let m = c.args.self.now in
    let next = made_next m (minus m c.args.part.now) deref_pair c.loop-point.point-iterator c.next.new.self c.next.result (c.in-Some.point, c.in-Some.n) c.in-Some.is c.next.ensures.steps c.loop-point.invariant in
    let small : unsigned_abs c.in-Some.n.now ≤ max_count = rw next.is (c.iter-point-items.ensures.within c.in-Some.point.now) in
    rw (lessened c.in-Some.n.now c.get.result small c.get.ensures.within m c.args.part.now c.in-Some.point.now next.is c.get.ensures.value)
    (stays_within m c.args.part.now c.requires c.in-Some.point.now (c.iter-point-items.ensures.within c.in-Some.point.now))

pub loop-point-preserved : goal.loop-point-preserved
loop-point-preserved g c =
    let m = c.args.self.now in
    let next = made_next m (minus m c.args.part.now) deref_pair c.loop-point.point-iterator c.next.new.self c.next.result (c.in-Some.point, c.in-Some.n) c.in-Some.is c.next.ensures.steps c.loop-point.invariant in
    let small : unsigned_abs c.in-Some.n.now ≤ max_count = rw next.is (c.iter-point-items.ensures.within c.in-Some.point.now) in
    let set_is = rw (lessened c.in-Some.n.now c.get.result small c.get.ensures.within m c.args.part.now c.in-Some.point.now next.is c.get.ensures.value) at c.in_ok-put.ensures.ok in
    made_more m (minus m c.args.part.now) c.loop-point.point-iterator c.next.new.self (c.in-Some.point.now, c.in-Some.n.now) c.loop-point.made c.put.new.self next.step c.loop-point.invariant set_is

pub returns-clause-ok : goal.returns-clause-ok
returns-clause-ok g c =
    made_last c.args.self.now (minus c.args.self.now c.args.part.now) c.loop-point.point-iterator c.loop-point.made c.in-None.ensures.steps.0
    (stays_absent c.args.self.now c.args.part.now c.requires) c.loop-point.invariant
