use Rattle.std.proofs.Common.{◌≡◌, ◌<◌, length, ap, subst, sym, ◌∙◌}
use Rattle.nd_map.specs.Listed.{without}
use Rattle.nd_paths.specs.Point.{point_cmp}
use Rattle.nd_view.specs.Rows.{joined}
use Rattle.nd_view.proofs.RowLists.{listed_as, listed_rows, row_location, without_all, without_gap, without_rows}
use Rattle.nd_view.proofs.rows.Rows.remove.Goals as goal

pub invariant_of-self : goal.invariant_of-self
invariant_of-self g c =
    let rs = c.self.inside.rows.items in
    let d = c.index_mut.result.now in
    let p = c.args.point.now in
    let lt : c.in-Ok.r < length rs = rw c.deref.ensures.value at c.in-Ok.ensures.in_range in
    let here = sym (ap (λ r. r.location) c.index_mut.ensures.value ∙ row_location p.location rs c.in-Ok.r d (rw c.deref.ensures.value at c.in-Ok.ensures.found)) in
    without_rows rs c.in-Ok.r d c.self.invariant lt c.index_mut.ensures.value p here c.remove.new.self c.remove.ensures.value

pub returns-in-Ok-clause-value : goal.returns-in-Ok-clause-value
returns-in-Ok-clause-value g c =
    let rs = c.self.inside.rows.items in
    let d = c.index_mut.result.now in
    let p = c.args.point.now in
    let lt : c.in-Ok.r < length rs = rw c.deref.ensures.value at c.in-Ok.ensures.in_range in
    let here = sym (ap (λ r. r.location) c.index_mut.ensures.value ∙ row_location p.location rs c.in-Ok.r d (rw c.deref.ensures.value at c.in-Ok.ensures.found)) in
    without_all rs c.in-Ok.r d c.self.invariant lt c.index_mut.ensures.value p here c.remove.new.self c.remove.ensures.value
    ∙ ap (λ rows. without point_cmp p (joined rows)) c.self.view_is

pub returns-in-Ok-clause-listed : goal.returns-in-Ok-clause-listed
returns-in-Ok-clause-listed g c = listed_rows _ (invariant_of-self g c)

pub returns-in-Ok-clause-was_listed : goal.returns-in-Ok-clause-was_listed
returns-in-Ok-clause-was_listed g c = listed_as c.self.inside.rows.items c.args.self.now c.self.invariant c.self.view_is

pub returns-in_default-clause-value : goal.returns-in_default-clause-value
returns-in_default-clause-value g c =
    let p = c.args.point.now in
    subst (λ rows. joined rows ≡ without point_cmp p (joined rows)) c.self.view_is
    (without_gap p c.self.inside.rows.items c.in_default.field-0 c.self.invariant (rw c.deref.ensures.value at c.in_default.ensures.absent))

pub returns-in_default-clause-listed : goal.returns-in_default-clause-listed
returns-in_default-clause-listed g c = listed_as c.self.inside.rows.items c.args.self.now c.self.invariant c.self.view_is

pub returns-in_default-clause-was_listed : goal.returns-in_default-clause-was_listed
returns-in_default-clause-was_listed g c = listed_as c.self.inside.rows.items c.args.self.now c.self.invariant c.self.view_is
