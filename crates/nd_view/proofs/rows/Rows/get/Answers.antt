use Rattle.std.proofs.Common.{ap, sym, ◌∙◌}
use Rattle.std.specs.FinMap.{find}
use Rattle.nd_paths.specs.Point.{point_cmp}
use Rattle.nd_view.specs.Rows.{joined}
use Rattle.nd_view.proofs.RowLists.{find_gap, find_in, listed_as}
use Rattle.nd_view.proofs.rows.Rows.get.Goals as goal

pub returns-in-Ok-clause-value : goal.returns-in-Ok-clause-value
returns-in-Ok-clause-value g c =
    c.get.ensures.value
    ∙ find_in c.args.point.now c.self.inside.rows.items c.in-Ok.r c.index.result.now c.args.self.now c.self.invariant (rw c.deref.ensures.value at c.in-Ok.ensures.found) c.index.ensures c.self.view_is

pub returns-in-Err-clause-value : goal.returns-in-Err-clause-value
returns-in-Err-clause-value g c =
    let p = c.args.point.now in
    sym (find_gap p c.self.inside.rows.items c.in-Err.field-0 c.self.invariant (rw c.deref.ensures.value at c.in-Err.ensures.absent))
    ∙ ap (λ rows. find point_cmp p (joined rows)) c.self.view_is

pub returns-in-Ok-clause-listed : goal.returns-in-Ok-clause-listed
returns-in-Ok-clause-listed g c = listed_as c.self.inside.rows.items c.args.self.now c.self.invariant c.self.view_is

pub returns-in-Err-clause-listed : goal.returns-in-Err-clause-listed
returns-in-Err-clause-listed g c = listed_as c.self.inside.rows.items c.args.self.now c.self.invariant c.self.view_is
