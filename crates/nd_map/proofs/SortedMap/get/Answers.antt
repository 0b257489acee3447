use Rattle.std.proofs.Common.{sym, ap, Some, ◌∙◌}
use Rattle.std.specs.FinMap.{find}
use Rattle.nd_map.proofs.Places.{find_at, find_gap}
use Rattle.nd_map.proofs.SortedMap.get.Goals as goal

pub returns-in-Ok-clause-value : goal.returns-in-Ok-clause-value
returns-in-Ok-clause-value g c =
    ap (λ e. Some e.1) c.index.ensures
    ∙ sym (find_at g.K.Ord.cmp g.met.K.Ord.total c.args.key.now _ _ c.index.result.now (rw c.deref.ensures.value at c.in-Ok.ensures.found))
    ∙ ap (find g.K.Ord.cmp c.args.key.now) c.self.view_is

pub returns-in-Err-clause-value : goal.returns-in-Err-clause-value
returns-in-Err-clause-value g c = sym (find_gap g.K.Ord.cmp g.met.K.Ord.total c.args.key.now c.args.self.now _ (rw c.self.view_is at c.self.invariant) (rw (c.deref.ensures.value, c.self.view_is) at c.in-Err.ensures.absent))
