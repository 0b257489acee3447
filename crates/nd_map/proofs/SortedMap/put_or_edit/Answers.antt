use Rattle.std.proofs.Common.{◌≡◌, get_or, ap, subst, sym, ◌∙◌, ℕ, List, Some, None, Ordering}
use Rattle.std.specs.Cmp.{IsTotalOrder}
use Rattle.std.specs.FinMap.{find, put}
use Rattle.nd_map.specs.Listed.{IsListed, without}
use Rattle.nd_map.specs.Maps.{listed-put}
use Rattle.nd_map.specs.Place.{IsAt, IsGap}
use Rattle.nd_map.proofs.Places.{find_at, find_gap, put_over, put_gap, without_at, listed_without}
use Rattle.nd_map.proofs.SortedMap.put_or_edit.Goals as goal

-- what a lookup finds at the key of an entry, and at a key without an entry
there : {K X : Type 0} (R : K → K → Ordering) → IsTotalOrder R → (k : K) (es fs : List (K × X)) (i : ℕ) (d : K × X) → es ≡ fs → d ≡ get_or es i d → IsAt R k es i → find R k fs ≡ Some d.1
there R o k es fs i d same is at = sym (ap (λ e. Some e.1) is ∙ sym (find_at R o k es i d at) ∙ ap (find R k) same)

absent : {K X : Type 0} (R : K → K → Ordering) → IsTotalOrder R → (k : K) (es fs : List (K × X)) (i : ℕ) → es ≡ fs → IsListed R es → IsGap R k es i → find R k fs ≡ None
absent R o k es fs i same h gap = ap (find R k) (sym same) ∙ find_gap R o k es i h gap

-- the entries after a put are sorted
kept : {K X : Type 0} (R : K → K → Ordering) → IsTotalOrder R → (k : K) (v : X) (es fs : List (K × X)) → fs ≡ put R k v es → IsListed R es → IsListed R fs
kept R o k v es fs is h = subst (IsListed R) (sym is) (listed-put R o k v es h)

-- ---- a key that has a value
pub edit-requires : goal.edit-requires
edit-requires g c = c.requires c.index.result.now.1 (there g.K.Ord.cmp g.met.K.Ord.total c.args.key.now c.self.inside.entries.items _ c.in-Ok.index c.index.result.now c.self.view_is c.index.ensures (rw c.deref.ensures.value at c.in-Ok.ensures.found))

pub returns-in-Keep-clause-said : goal.returns-in-Keep-clause-said
returns-in-Keep-clause-said g c = rw (there g.K.Ord.cmp g.met.K.Ord.total c.args.key.now c.self.inside.entries.items c.args.self.now c.in-Ok.index c.index.result.now c.self.view_is c.index.ensures (rw c.deref.ensures.value at c.in-Ok.ensures.found)) c.in-Keep.ensures

pub returns-in-Put-clause-said : goal.returns-in-Put-clause-said
returns-in-Put-clause-said g c = rw (there g.K.Ord.cmp g.met.K.Ord.total c.args.key.now c.self.inside.entries.items c.args.self.now c.in-Ok.index c.index.result.now c.self.view_is c.index.ensures (rw c.deref.ensures.value at c.in-Ok.ensures.found)) c.in-Put.ensures

pub returns-in-Remove-clause-said : goal.returns-in-Remove-clause-said
returns-in-Remove-clause-said g c = rw (there g.K.Ord.cmp g.met.K.Ord.total c.args.key.now c.self.inside.entries.items c.args.self.now c.in-Ok.index c.index.result.now c.self.view_is c.index.ensures (rw c.deref.ensures.value at c.in-Ok.ensures.found)) c.in-Remove.ensures

pub invariant_of-self : goal.invariant_of-self
invariant_of-self g c =
    kept g.K.Ord.cmp g.met.K.Ord.total c.args.key.now c.in-Put.other c.self.inside.entries.items _
    (put_over g.K.Ord.cmp g.met.K.Ord.total c.args.key.now c.in-Put.other c.self.inside.entries.items c.in-Ok.index c.index_mut.result.now c.index_mut.ensures.value (rw c.deref.ensures.value at c.in-Ok.ensures.found))
    c.self.invariant

pub returns-in-Put-clause-listed : goal.returns-in-Put-clause-listed
returns-in-Put-clause-listed g c = invariant_of-self g c

pub returns-in-Put-clause-done : goal.returns-in-Put-clause-done
returns-in-Put-clause-done g c =
    put_over g.K.Ord.cmp g.met.K.Ord.total c.args.key.now c.in-Put.other c.self.inside.entries.items c.in-Ok.index c.index_mut.result.now c.index_mut.ensures.value (rw c.deref.ensures.value at c.in-Ok.ensures.found)
    ∙ ap (put g.K.Ord.cmp c.args.key.now c.in-Put.other) c.self.view_is

pub invariant_of-self-in-Remove : goal.invariant_of-self-in-Remove
invariant_of-self-in-Remove g c =
    rw (c.remove.ensures.items ∙ without_at g.K.Ord.cmp g.met.K.Ord.total c.args.key.now c.self.inside.entries.items c.in-Ok.index c.self.invariant (rw c.deref.ensures.value at c.in-Ok.ensures.found))
    (listed_without g.K.Ord.cmp c.args.key.now c.self.inside.entries.items c.self.invariant)

pub returns-in-Remove-clause-listed : goal.returns-in-Remove-clause-listed
returns-in-Remove-clause-listed g c = invariant_of-self-in-Remove g c

pub returns-in-Remove-clause-done : goal.returns-in-Remove-clause-done
returns-in-Remove-clause-done g c =
    c.remove.ensures.items ∙ without_at g.K.Ord.cmp g.met.K.Ord.total c.args.key.now c.self.inside.entries.items c.in-Ok.index c.self.invariant (rw c.deref.ensures.value at c.in-Ok.ensures.found)
    ∙ ap (without g.K.Ord.cmp c.args.key.now) c.self.view_is

-- ---- a new key
pub returns-in_default-clause-absent : goal.returns-in_default-clause-absent
returns-in_default-clause-absent g c = absent g.K.Ord.cmp g.met.K.Ord.total c.args.key.now c.self.inside.entries.items c.args.self.now c.in-Err.i c.self.view_is c.self.invariant (rw c.deref.ensures.value at c.in-Err.ensures.absent)

pub invariant_of-self-in-Err-1 : goal.invariant_of-self-in-Err-1
invariant_of-self-in-Err-1 g c =
    kept g.K.Ord.cmp g.met.K.Ord.total c.args.key.now c.args.value c.self.inside.entries.items _
    (c.in-Ok-insert.ensures.items ∙ rw c.duplicate.ensures (put_gap g.K.Ord.cmp g.met.K.Ord.total c.args.key.now c.args.value c.self.inside.entries.items c.in-Err.i (rw c.deref.ensures.value at c.in-Err.ensures.absent)))
    c.self.invariant

pub returns-in-Ok-insert-clause-listed : goal.returns-in-Ok-insert-clause-listed
returns-in-Ok-insert-clause-listed g c = invariant_of-self-in-Err-1 g c

pub returns-in-Ok-insert-clause-said : goal.returns-in-Ok-insert-clause-said
returns-in-Ok-insert-clause-said g c = rw (absent g.K.Ord.cmp g.met.K.Ord.total c.args.key.now c.self.inside.entries.items c.args.self.now c.in-Err.i c.self.view_is c.self.invariant (rw c.deref.ensures.value at c.in-Err.ensures.absent)) tt

pub returns-in-Ok-insert-clause-done : goal.returns-in-Ok-insert-clause-done
returns-in-Ok-insert-clause-done g c =
    c.in-Ok-insert.ensures.items ∙ rw c.duplicate.ensures (put_gap g.K.Ord.cmp g.met.K.Ord.total c.args.key.now c.args.value c.self.inside.entries.items c.in-Err.i (rw c.deref.ensures.value at c.in-Err.ensures.absent))
    ∙ ap (put g.K.Ord.cmp c.args.key.now c.args.value) c.self.view_is
