use Rattle.std.proofs.Common.{ap, subst, sym, ◌∙◌}
use Rattle.std.specs.FinMap.{find, put}
use Rattle.nd_map.specs.Listed.{IsListed, without}
use Rattle.nd_map.proofs.Trees.{find_is, put_is, without_is, listed_after}
use Rattle.nd_map.proofs.tree.TreeMap.put_or_edit.Goals as goal
use Rattle.nd_map.proofs.tree.TreeMap.put_or_edit.Goals.{in-Vacant, in-Occupied+in-Keep, in-Occupied+in-Put, in-Occupied+in-Remove}

pub returns-in_default-clause-absent : goal.returns-in_default-clause-absent
returns-in_default-clause-absent g c =
    ap (find g.K.Ord.cmp c.args.key.now) (sym c.self.view_is)
    ∙ sym (find_is g.K.Ord.cmp c.args.key.now c.self.inside.tree.entries)
    ∙ rw c.duplicate.ensures at c.in_default.ensures.absent

pub edit-requires : goal.edit-requires
edit-requires g c =
    c.requires c.get.result.now
    (ap (find g.K.Ord.cmp c.args.key.now) (sym c.self.view_is) ∙ sym (find_is g.K.Ord.cmp c.args.key.now c.self.inside.tree.entries)
    ∙ sym (rw (c.in-Occupied.is, c.duplicate.ensures) at c.in-Ok.ensures.value) ∙ c.get.ensures)

pub returns-clause-said : goal.returns-clause-said
returns-clause-said g c =
    let found = find_is g.K.Ord.cmp c.args.key.now c.self.inside.tree.entries ∙ ap (find g.K.Ord.cmp c.args.key.now) c.self.view_is in
    elim c.match-entry-2.branch [
      | in-Vacant w ↦
          let there = sym (rw (w.in-Vacant.is, c.duplicate.ensures) at c.in-Ok.ensures.found) ∙ found in
          rw (w.result-is, ← there) tt
      | in-Occupied+in-Keep w ↦
          let there = sym w.get.ensures ∙ (rw (w.in-Occupied.is, c.duplicate.ensures) at c.in-Ok.ensures.value) ∙ found in
          rw (w.result-is, ← there) w.in-Keep.ensures
      | in-Occupied+in-Put w ↦
          let there = sym w.get.ensures ∙ (rw (w.in-Occupied.is, c.duplicate.ensures) at c.in-Ok.ensures.value) ∙ found in
          rw (w.result-is, ← there) w.in-Put.ensures
      | in-Occupied+in-Remove w ↦
          let there = sym w.get.ensures ∙ (rw (w.in-Occupied.is, c.duplicate.ensures) at c.in-Ok.ensures.value) ∙ found in
          rw (w.result-is, ← there) w.in-Remove.ensures
    ]

pub returns-clause-done : goal.returns-clause-done
returns-clause-done g c = elim c.match-entry-2.branch [
  | in-Vacant w ↦
      let same = rw w.in-Vacant.is at c.in-Ok.ensures.same_map in
      let update = rw (w.in-Vacant.is, c.duplicate.ensures) at c.in-Ok.ensures.update in
      rw (w.result-is, w.self-inside-is) (
      ap (λ m. m.entries) (w.self-in-Vacant-2-1.given.1 (sym same)) ∙ update.1 w.insert.result.now
      ∙ put_is g.K.Ord.cmp c.args.key.now w.insert.result.now c.self.inside.tree.entries
      ∙ ap (λ v. put g.K.Ord.cmp c.args.key.now v c.self.inside.tree.entries) w.insert.ensures.value
      ∙ ap (put g.K.Ord.cmp c.args.key.now c.args.value) c.self.view_is
      )
  | in-Occupied+in-Keep w ↦
      let same = rw w.in-Occupied.is at c.in-Ok.ensures.same_map in
      let unchanged = rw w.in-Occupied.is at c.in-Ok.ensures.unchanged in
      rw (w.result-is, w.self-inside-is) (ap (λ m. m.entries) (w.self-in-Keep-1.given.1 (sym same)) ∙ unchanged ∙ c.self.view_is)
  | in-Occupied+in-Put w ↦
      let same = rw w.in-Occupied.is at c.in-Ok.ensures.same_map in
      let update = rw (w.in-Occupied.is, c.duplicate.ensures) at c.in-Ok.ensures.update in
      rw (w.result-is, w.self-inside-is) (
      ap (λ m. m.entries) (w.self-in-Put-1.given.1 (sym (w.insert-in-Put.ensures.written.0 ∙ same)) ∙ w.insert-in-Put.ensures.written.1) ∙ update.1 w.in-Put.other
      ∙ put_is g.K.Ord.cmp c.args.key.now w.in-Put.other c.self.inside.tree.entries
      ∙ ap (put g.K.Ord.cmp c.args.key.now w.in-Put.other) c.self.view_is
      )
  | in-Occupied+in-Remove w ↦
      let same = rw w.in-Occupied.is at c.in-Ok.ensures.same_map in
      let removal = rw (w.in-Occupied.is, c.duplicate.ensures) at c.in-Ok.ensures.removal in
      rw (w.result-is, w.self-inside-is) (
      ap (λ m. m.entries) (w.self-in-Remove-1.given.1 (sym same)) ∙ w.remove.ensures.removed ∙ removal.1
      ∙ without_is g.K.Ord.cmp g.met.K.Ord.total c.args.key.now c.self.inside.tree.entries c.self.invariant
      ∙ ap (without g.K.Ord.cmp c.args.key.now) c.self.view_is
      )
]

pub invariant_of-self-2 : goal.invariant_of-self-2
invariant_of-self-2 g c =
    let listed = subst (IsListed g.K.Ord.cmp) c.self.view_is c.self.invariant in
    let after = listed_after g.K.Ord.cmp g.met.K.Ord.total c.match-entry-2.result c.args.key.now c.args.value c.args.self.now c.match-entry-2.self-inside.tree.entries in
    let done = returns-clause-done g c in
    elim c.match-entry-2.branch [
      | in-Vacant w ↦ after _ w.result-is done listed
      | in-Occupied+in-Keep w ↦ after _ w.result-is done listed
      | in-Occupied+in-Put w ↦ after _ w.result-is done listed
      | in-Occupied+in-Remove w ↦ after _ w.result-is done listed
    ]

pub returns-clause-listed : goal.returns-clause-listed
returns-clause-listed g c = invariant_of-self-2 g c
