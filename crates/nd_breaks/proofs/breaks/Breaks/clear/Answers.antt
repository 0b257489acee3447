use Rattle.std.proofs.Common.{◌≢◌, None, rules}
use Rattle.std.specs.FinMap as fin
use Rattle.nd_breaks.proofs.Slots.{within, taken_out}
use Rattle.nd_breaks.proofs.breaks.Breaks.clear.Goals as goal

pub write-requires : goal.write-requires
write-requires g c =
    let set : fin.get c.args.self.now c.args.id ≢ None = search rules in
    within c.as_mut_slice.result.now c.self.inside.slots.items c.args.self.now c.args.id c.as_mut_slice.ensures.value c.self.view_is set

pub returns-clause-ok : goal.returns-clause-ok
returns-clause-ok g c =
    let set : fin.get c.args.self.now c.args.id ≢ None = search rules in
    taken_out c.self.inside.slots.items c.as_mut_slice.result.now c.write.new.slots _ c.args.self.now c.args.id c.as_mut_slice.ensures.len c.as_mut_slice.ensures.value c.write.ensures c.self.view_is
    (within c.as_mut_slice.result.now c.self.inside.slots.items c.args.self.now c.args.id c.as_mut_slice.ensures.value c.self.view_is set)

pub returns-then-is_none-clause-ok : goal.returns-then-is_none-clause-ok
returns-then-is_none-clause-ok g c = search rules

pub returns-then-is_none-clause-was : goal.returns-then-is_none-clause-was
returns-then-is_none-clause-was g c = search rules
