use Rattle.std.proofs.Common.{ap, ◌∙◌}
use Rattle.nd_map.specs.Listed.{without}
use Rattle.nd_map.proofs.Places.{without_at, without_gap, listed_without}
use Rattle.nd_map.proofs.SortedMap.remove.Goals as goal

pub returns-in-Ok-clause-value : goal.returns-in-Ok-clause-value
returns-in-Ok-clause-value g c =
    c.remove.ensures.items ∙ without_at g.K.Ord.cmp g.met.K.Ord.total c.args.key.now c.self.inside.entries.items c.in-Ok.i c.self.invariant (rw c.deref.ensures.value at c.in-Ok.ensures.found)
    ∙ ap (without g.K.Ord.cmp c.args.key.now) c.self.view_is

pub returns-in_default-clause-value : goal.returns-in_default-clause-value
returns-in_default-clause-value g c = without_gap g.K.Ord.cmp g.met.K.Ord.total c.args.key.now c.args.self.now c.in_default.field-0 (rw c.self.view_is at c.self.invariant) (rw (c.deref.ensures.value, c.self.view_is) at c.in_default.ensures.absent)

pub invariant_of-self : goal.invariant_of-self
invariant_of-self g c =
    rw (c.remove.ensures.items ∙ without_at g.K.Ord.cmp g.met.K.Ord.total c.args.key.now c.self.inside.entries.items c.in-Ok.i c.self.invariant (rw c.deref.ensures.value at c.in-Ok.ensures.found))
    (listed_without g.K.Ord.cmp c.args.key.now c.self.inside.entries.items c.self.invariant)

pub returns-in-Ok-clause-listed : goal.returns-in-Ok-clause-listed
returns-in-Ok-clause-listed g c = invariant_of-self g c
