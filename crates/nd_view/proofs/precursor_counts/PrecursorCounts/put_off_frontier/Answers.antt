use Rattle.std.proofs.Common.{◌<◌, get_or, length, ap, sym, subst, ◌∙◌, vec_capacity}
use Rattle.nd_view.specs.Rows.{row_of}
use Rattle.nd_view.proofs.RowZeros.{right_as_it_is}
use Rattle.nd_view.proofs.Walks.{found_entry}
use Rattle.nd_view.proofs.precursor_counts.PrecursorCounts.put_off_frontier.Goals as goal

pub invariant_of-self : goal.invariant_of-self
invariant_of-self g c =
    let here = c.self.inside in
    let lt = subst (λ rows. c.args.k < length (row_of rows c.args.r)) (sym c.self.view_is) c.requires.entry in
    let e = found_entry (row_of here.counts c.args.r) c.args.k lt in
    let same = ap (λ rows. (get_or (row_of rows c.args.r) c.args.k e.0).1) c.self.view_is in
    right_as_it_is {e = e.0} (record { entry = lt; is = e.1; listed = c.put_at.ensures.was_listed; told = c.put_at.ensures.value; points = c.put_at.ensures.points })
    here.frontier.items (vec_capacity here.frontier) c.self.invariant (λ z. c.requires.was e.0 (sym same ∙ ap (λ y. y.1) (sym e.1) ∙ z)) c.requires.is
