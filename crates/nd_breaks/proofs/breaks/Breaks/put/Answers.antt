use Rattle.std.proofs.Common.{◌≤◌, Some, length, ap, ◌∙◌, arith, rules}
use Rattle.std.specs.Prelude.{slice_set}
use Rattle.nd_breaks.proofs.Slots.{put_in, pushed_in, next_at_most}
use Rattle.nd_breaks.proofs.breaks.Breaks.put.Goals as goal

pub returns-then-id-len : goal.returns-then-id-len
returns-then-id-len g c = put_in c.self.inside.slots.items c.as_mut_slice.result.now c.write.new.slots _ c.args.self.now c.args.id c.args.b c.as_mut_slice.ensures.len c.as_mut_slice.ensures.value (c.write.ensures ∙ ap (λ i. slice_set c.as_mut_slice.result.now i (Some c.args.b)) c.from-id.ensures) c.self.view_is (omega arith)

pub returns-else-id-len : goal.returns-else-id-len
returns-else-id-len g c =
    let past : length c.self.inside.slots.items ≤ c.args.id = omega arith in
    rw c.push_reserved.ensures.items (pushed_in c.self.inside.slots.items c.args.self.now c.args.id c.args.b c.self.view_is (next_at_most c.self.inside.slots.items c.args.self.now c.args.id c.self.view_is c.requires past))

pub push_reserved-requires : goal.push_reserved-requires
push_reserved-requires g c = search rules
