use Rattle.std.proofs.Common.{◌≡◌, ap, subst, sym, ◌∙◌, List, Ordering}
use Rattle.std.specs.FinMap.{put}
use Rattle.std.specs.FinMap.Entries.{is_sorted-put}
use Rattle.std.specs.Cmp.{IsTotalOrder}
use Rattle.nd_map.specs.Listed.{IsListed}
use Rattle.nd_map.proofs.Places.{find_gap, put_over, put_gap}
use Rattle.nd_map.proofs.SortedMap.put.Goals as goal

-- the entries after a put are sorted
kept : {K X : Type 0} (R : K → K → Ordering) → IsTotalOrder R → (k : K) (v : X) (es fs : List (K × X)) → fs ≡ put R k v es → IsListed R es → IsListed R fs
kept R o k v es fs is h = subst (IsListed R) (sym is) (is_sorted-put R o k v es h)

pub returns-in_default-clause-absent : goal.returns-in_default-clause-absent
returns-in_default-clause-absent g c = find_gap g.K.Ord.cmp g.met.K.Ord.total c.args.key.now c.args.self.now _ (rw c.self.view_is at c.self.invariant) (rw (c.deref.ensures.value, c.self.view_is) at c.in-Err.ensures.absent)

-- ---- a key that has a value
pub invariant_of-self : goal.invariant_of-self
invariant_of-self g c =
    kept g.K.Ord.cmp g.met.K.Ord.total c.args.key.now c.args.value c.self.inside.entries.items _
    (put_over g.K.Ord.cmp g.met.K.Ord.total c.args.key.now c.args.value c.self.inside.entries.items c.in-Ok.i c.index_mut.result.now c.index_mut.ensures.value (rw c.deref.ensures.value at c.in-Ok.ensures.found))
    c.self.invariant

pub returns-in-Ok-clause-listed : goal.returns-in-Ok-clause-listed
returns-in-Ok-clause-listed g c = invariant_of-self g c

pub returns-in-Ok-clause-ok : goal.returns-in-Ok-clause-ok
returns-in-Ok-clause-ok g c =
    put_over g.K.Ord.cmp g.met.K.Ord.total c.args.key.now c.args.value c.self.inside.entries.items c.in-Ok.i c.index_mut.result.now c.index_mut.ensures.value (rw c.deref.ensures.value at c.in-Ok.ensures.found)
    ∙ ap (put g.K.Ord.cmp c.args.key.now c.args.value) c.self.view_is

-- ---- a new key

pub invariant_of-self-in-Err : goal.invariant_of-self-in-Err
invariant_of-self-in-Err g c =
    kept g.K.Ord.cmp g.met.K.Ord.total c.args.key.now c.args.value c.self.inside.entries.items _
    (c.in-Ok-insert.ensures.items ∙ rw c.duplicate.ensures (put_gap g.K.Ord.cmp g.met.K.Ord.total c.args.key.now c.args.value c.self.inside.entries.items c.in-Err.i (rw c.deref.ensures.value at c.in-Err.ensures.absent)))
    c.self.invariant

pub returns-in-Ok-insert-clause-listed : goal.returns-in-Ok-insert-clause-listed
returns-in-Ok-insert-clause-listed g c = invariant_of-self-in-Err g c

pub returns-in-Ok-insert-clause-ok : goal.returns-in-Ok-insert-clause-ok
returns-in-Ok-insert-clause-ok g c =
    c.in-Ok-insert.ensures.items ∙ rw c.duplicate.ensures (put_gap g.K.Ord.cmp g.met.K.Ord.total c.args.key.now c.args.value c.self.inside.entries.items c.in-Err.i (rw c.deref.ensures.value at c.in-Err.ensures.absent))
    ∙ ap (put g.K.Ord.cmp c.args.key.now c.args.value) c.self.view_is
