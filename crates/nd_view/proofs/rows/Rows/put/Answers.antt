use Rattle.std.proofs.Common.{◌≡◌, ap, refl, sym, ◌∙◌}
use Rattle.nd_view.specs.Rows.{all_of, joined}
use Rattle.nd_view.proofs.RowLists.{listed_as, listed_rows, put_or_not, row_location}
use Rattle.nd_view.proofs.rows.Rows.put.Goals as goal

pub returns-in_err-r-clause-listed : goal.returns-in_err-r-clause-listed
returns-in_err-r-clause-listed g c = listed_rows c.row_for.new.rows.items c.row_for.ensures.rows

pub returns-in_err-r-clause-was_listed : goal.returns-in_err-r-clause-was_listed
returns-in_err-r-clause-was_listed g c = listed_as c.self.inside.rows.items c.args.self.now c.self.invariant c.self.view_is

pub invariant_of-self-2 : goal.invariant_of-self-2
invariant_of-self-2 g c =
    let rs = c.row_for.new.rows.items in
    let d = c.index_mut.result.now in
    let p = c.args.point.now in
    let here = sym (ap (λ r. r.location) c.index_mut.ensures.value ∙ row_location p.location rs c.in_ok-r.r d c.in_ok-r.ensures.found) in
    (put_or_not rs c.in_ok-r.r d c.row_for.ensures.rows c.in_ok-r.ensures.in_range c.index_mut.ensures.value p here c.args.n c.put.new.self (all_of rs) c.put.result refl c.put.ensures.ok c.put.ensures.err).rows

pub returns-clause-ok : goal.returns-clause-ok
returns-clause-ok g c =
    let rs = c.row_for.new.rows.items in
    let d = c.index_mut.result.now in
    let p = c.args.point.now in
    let here = sym (ap (λ r. r.location) c.index_mut.ensures.value ∙ row_location p.location rs c.in_ok-r.r d c.in_ok-r.ensures.found) in
    let same : all_of rs ≡ joined c.args.self.now = c.row_for.ensures.same ∙ ap (λ rows. joined rows) c.self.view_is in
    (put_or_not rs c.in_ok-r.r d c.row_for.ensures.rows c.in_ok-r.ensures.in_range c.index_mut.ensures.value p here c.args.n c.put.new.self (joined c.args.self.now) c.put.result same c.put.ensures.ok c.put.ensures.err).ok

pub returns-clause-listed : goal.returns-clause-listed
returns-clause-listed g c = listed_rows _ (invariant_of-self-2 g c)

pub returns-clause-was_listed : goal.returns-clause-was_listed
returns-clause-was_listed g c = listed_as c.self.inside.rows.items c.args.self.now c.self.invariant c.self.view_is
