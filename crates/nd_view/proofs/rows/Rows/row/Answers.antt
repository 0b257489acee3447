use Rattle.std.proofs.Common.{◌<◌, ap, length, subst, sym, ◌∙◌, arith}
use Rattle.std.proofs.lemmas.List.{length-map}
use Rattle.nd_view.specs.Links.{IsRun}
use Rattle.nd_view.proofs.RowLists.{listed_as, row_at, run_at}
use Rattle.nd_view.proofs.rows.Rows.row.Goals as goal

pub returns-clause-run : goal.returns-clause-run
returns-clause-run g c =
    let rs = c.self.inside.rows.items in
    let d = c.index.result.now in
    let lt : c.args.r < length rs = omega (arith, c.requires, ap length c.self.view_is, length-map rs (λ r. r.numbers)) in
    subst (λ es. IsRun es 0 (length es)) (sym (c.entries.ensures.value ∙ ap (λ r. r.numbers) c.index.ensures)) (run_at _ _ (row_at rs c.args.r d c.self.invariant lt).0)

pub returns-clause-all : goal.returns-clause-all
returns-clause-all g c = listed_as c.self.inside.rows.items c.args.self.now c.self.invariant c.self.view_is
