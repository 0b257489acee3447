use Rattle.std.proofs.Common.{◌<◌, length, ap, subst, sym, ◌∙◌, arith}
use Rattle.std.proofs.lemmas.List.{length-map}
use Rattle.nd_view.specs.Rows.{points_by_row, row_of}
use Rattle.nd_view.proofs.RowLists.{listed_as, listed_rows, put_at_all, put_at_points, put_at_rows}
use Rattle.nd_view.proofs.rows.Rows.put_at.Goals as goal

pub invariant_of-self : goal.invariant_of-self
invariant_of-self g c =
    let rs = c.self.inside.rows.items in
    let lt : c.args.r < length rs = omega (arith, c.requires.row, ap length c.self.view_is, length-map rs (λ r. r.numbers)) in
    let inside = subst (λ rows. c.args.k < length (row_of rows c.args.r)) (sym c.self.view_is) c.requires.entry in
    put_at_rows rs c.args.r c.index_mut.result.now c.self.invariant lt c.index_mut.ensures.value c.args.k c.args.n c.put_at.new.self inside c.put_at.ensures.value

pub returns-clause-value : goal.returns-clause-value
returns-clause-value g c =
    let rs = c.self.inside.rows.items in
    let lt : c.args.r < length rs = omega (arith, c.requires.row, ap length c.self.view_is, length-map rs (λ r. r.numbers)) in
    let inside = subst (λ rows. c.args.k < length (row_of rows c.args.r)) (sym c.self.view_is) c.requires.entry in
    put_at_all rs c.args.r c.index_mut.result.now c.self.invariant lt c.index_mut.ensures.value c.args.k c.args.n c.put_at.new.self inside c.put_at.ensures.value
    c.args.self.now c.self.view_is

pub returns-clause-points : goal.returns-clause-points
returns-clause-points g c =
    let rs = c.self.inside.rows.items in
    let lt : c.args.r < length rs = omega (arith, c.requires.row, ap length c.self.view_is, length-map rs (λ r. r.numbers)) in
    let inside = subst (λ rows. c.args.k < length (row_of rows c.args.r)) (sym c.self.view_is) c.requires.entry in
    put_at_points rs c.args.r c.index_mut.result.now c.self.invariant lt c.index_mut.ensures.value c.args.k c.args.n c.put_at.new.self inside c.put_at.ensures.value c.put_at.ensures.keys
    ∙ ap (λ rows. points_by_row rows) c.self.view_is

pub returns-clause-listed : goal.returns-clause-listed
returns-clause-listed g c = listed_rows _ (invariant_of-self g c)

pub returns-clause-was_listed : goal.returns-clause-was_listed
returns-clause-was_listed g c = listed_as c.self.inside.rows.items c.args.self.now c.self.invariant c.self.view_is
