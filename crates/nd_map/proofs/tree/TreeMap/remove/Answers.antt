use Rattle.std.proofs.Common.{ap, subst, sym, ◌∙◌}
use Rattle.nd_map.specs.Listed.{IsListed, without}
use Rattle.nd_map.specs.Maps.{listed-without}
use Rattle.nd_map.proofs.Trees.{without_is}
use Rattle.nd_map.proofs.tree.TreeMap.remove.Goals as goal

pub returns-clause-value : goal.returns-clause-value
returns-clause-value g c =
    c.remove.ensures.entries
    ∙ without_is g.K.Ord.cmp g.met.K.Ord.total c.args.key.now c.self.inside.tree.entries c.self.invariant
    ∙ ap (without g.K.Ord.cmp c.args.key.now) c.self.view_is

pub invariant_of-self : goal.invariant_of-self
invariant_of-self g c =
    subst (IsListed g.K.Ord.cmp)
    (sym (c.remove.ensures.entries ∙ without_is g.K.Ord.cmp g.met.K.Ord.total c.args.key.now c.self.inside.tree.entries c.self.invariant))
    (listed-without g.K.Ord.cmp c.args.key.now c.self.inside.tree.entries c.self.invariant)

pub returns-clause-listed : goal.returns-clause-listed
returns-clause-listed g c = invariant_of-self g c
