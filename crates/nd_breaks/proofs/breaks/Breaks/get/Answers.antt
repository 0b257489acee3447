use Rattle.std.proofs.Common.{Some, None, length, ap, ◌∙◌, arith}
use Rattle.nd_breaks.proofs.Slots.{slot_is, got, none_from}
use Rattle.nd_breaks.proofs.breaks.Breaks.get.Goals as goal

pub returns-then-id-slots-clause-none : goal.returns-then-id-slots-clause-none
returns-then-id-slots-clause-none g c = λ _. none_from c.as_slice-slots.result.now c.self.inside.slots.items c.args.self.now c.args.id c.as_slice-slots.ensures.value c.self.view_is c.if-id-slots.true c.args.id (omega arith)

pub returns-then-id-slots-clause-few : goal.returns-then-id-slots-clause-few
returns-then-id-slots-clause-few g c = none_from c.as_slice-slots.result.now c.self.inside.slots.items c.args.self.now _ c.as_slice-slots.ensures.value c.self.view_is (omega (arith, ap length c.as_slice-slots.ensures.value, c.self.invariant.few))

pub returns-in-Some-clause-some : goal.returns-in-Some-clause-some
returns-in-Some-clause-some g c =
    got c.as_slice-slots.result.now c.self.inside.slots.items c.args.self.now c.args.id (Some c.in-Some.b) c.as_slice-slots.ensures.value c.self.view_is
    (slot_is c.as_slice-slots.result.now c.args.id c.index-slots-id.result c.if-id-slots.false c.index-slots-id.is ∙ c.in-Some.is)

pub returns-in-Some-clause-few : goal.returns-in-Some-clause-few
returns-in-Some-clause-few g c = none_from c.as_slice-slots.result.now c.self.inside.slots.items c.args.self.now _ c.as_slice-slots.ensures.value c.self.view_is (omega (arith, ap length c.as_slice-slots.ensures.value, c.self.invariant.few))

pub returns-in-None-clause-none : goal.returns-in-None-clause-none
returns-in-None-clause-none g c = λ _.
    got c.as_slice-slots.result.now c.self.inside.slots.items c.args.self.now c.args.id None c.as_slice-slots.ensures.value c.self.view_is
    (slot_is c.as_slice-slots.result.now c.args.id c.index-slots-id.result c.if-id-slots.false c.index-slots-id.is ∙ c.in-None.is)

pub returns-in-None-clause-few : goal.returns-in-None-clause-few
returns-in-None-clause-few g c = none_from c.as_slice-slots.result.now c.self.inside.slots.items c.args.self.now _ c.as_slice-slots.ensures.value c.self.view_is (omega (arith, ap length c.as_slice-slots.ensures.value, c.self.invariant.few))
