use Rattle.std.proofs.Common.{◌<◌, ap, length, subst, ◌∙◌}
use Rattle.std.specs.Prelude.{Contains}
use Rattle.nd_view.specs.Rows.{joined}
use Rattle.nd_view.proofs.RowLists.{among_rows, listed_as}
use Rattle.nd_view.proofs.rows.Rows.at_location.Goals as goal

pub returns-in-Ok-clause-among : goal.returns-in-Ok-clause-among
returns-in-Ok-clause-among g c = λ e among.
    let rs = c.self.inside.rows.items in
    let lt : c.in-Ok.r < length rs = rw c.deref.ensures.value at c.in-Ok.ensures.in_range in
    subst (λ rows. Contains (joined rows) e) c.self.view_is
    (among_rows rs c.in-Ok.r c.index.result.now e lt (subst (λ es. Contains es e) (c.entries.ensures.value ∙ ap (λ r. r.numbers) c.index.ensures) among))

pub returns-in-Ok-clause-all : goal.returns-in-Ok-clause-all
returns-in-Ok-clause-all g c = listed_as c.self.inside.rows.items c.args.self.now c.self.invariant c.self.view_is

pub returns-in-Err-clause-all : goal.returns-in-Err-clause-all
returns-in-Err-clause-all g c = listed_as c.self.inside.rows.items c.args.self.now c.self.invariant c.self.view_is
