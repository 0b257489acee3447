use Rattle.std.proofs.Common.{get_or, ap, subst, sym, ◌∙◌}
use Rattle.std.specs.FinMap.{put}
use Rattle.nd_map.specs.Counts.{keys_of}
use Rattle.nd_map.specs.Listed.{IsListed}
use Rattle.nd_map.specs.Maps.{listed-put}
use Rattle.nd_map.proofs.Places.{put_there, keys_over}
use Rattle.nd_map.proofs.SortedMap.put_at.Goals as goal

pub returns-clause-value : goal.returns-clause-value
returns-clause-value g c = λ d.
    put_there g.K.Ord.cmp g.met.K.Ord.total c.args.value c.self.inside.entries.items c.args.index c.index_mut.result.now d c.self.invariant (rw (← c.self.view_is) at c.requires) c.index_mut.ensures.value
    ∙ ap (λ es. put g.K.Ord.cmp (get_or es c.args.index d).0 c.args.value es) c.self.view_is

pub returns-clause-keys : goal.returns-clause-keys
returns-clause-keys g c = keys_over c.args.value c.self.inside.entries.items c.args.index c.index_mut.result.now c.index_mut.ensures.value ∙ ap keys_of c.self.view_is

pub invariant_of-self : goal.invariant_of-self
invariant_of-self g c =
    subst (IsListed g.K.Ord.cmp) (sym (put_there g.K.Ord.cmp g.met.K.Ord.total c.args.value c.self.inside.entries.items c.args.index c.index_mut.result.now c.index_mut.result.now c.self.invariant (rw (← c.self.view_is) at c.requires) c.index_mut.ensures.value))
    (listed-put g.K.Ord.cmp g.met.K.Ord.total _ c.args.value c.self.inside.entries.items c.self.invariant)

pub returns-clause-listed : goal.returns-clause-listed
returns-clause-listed g c = invariant_of-self g c
