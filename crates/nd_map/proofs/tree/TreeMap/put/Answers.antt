use Rattle.std.proofs.Common.{ap, subst, sym, ◌∙◌}
use Rattle.std.specs.FinMap.{find, put}
use Rattle.nd_map.specs.Listed.{IsListed}
use Rattle.nd_map.specs.Maps.{listed-put}
use Rattle.nd_map.proofs.Trees.{find_is, put_is}
use Rattle.nd_map.proofs.tree.TreeMap.put.Goals as goal

pub returns-in_default-clause-absent : goal.returns-in_default-clause-absent
returns-in_default-clause-absent g c =
    ap (find g.K.Ord.cmp c.args.key.now) (sym c.self.view_is)
    ∙ sym (find_is g.K.Ord.cmp c.args.key.now c.self.inside.tree.entries)
    ∙ rw c.duplicate.ensures at c.in_default.ensures.absent

pub returns-clause-ok : goal.returns-clause-ok
returns-clause-ok g c =
    rw c.duplicate.ensures at c.in-Ok.ensures.entries
    ∙ put_is g.K.Ord.cmp c.args.key.now c.args.value c.self.inside.tree.entries
    ∙ ap (put g.K.Ord.cmp c.args.key.now c.args.value) c.self.view_is

pub invariant_of-self-2 : goal.invariant_of-self-2
invariant_of-self-2 g c =
    subst (IsListed g.K.Ord.cmp)
    (sym (rw c.duplicate.ensures at c.in-Ok.ensures.entries ∙ put_is g.K.Ord.cmp c.args.key.now c.args.value c.self.inside.tree.entries))
    (listed-put g.K.Ord.cmp g.met.K.Ord.total c.args.key.now c.args.value c.self.inside.tree.entries c.self.invariant)

pub returns-clause-listed : goal.returns-clause-listed
returns-clause-listed g c = invariant_of-self-2 g c
