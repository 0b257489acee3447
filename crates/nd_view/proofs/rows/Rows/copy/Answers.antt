use Rattle.nd_view.proofs.RowLists.{listed_as}
use Rattle.nd_view.proofs.rows.Rows.copy.Goals as goal

pub returns-in_err-rows-clause-listed : goal.returns-in_err-rows-clause-listed
returns-in_err-rows-clause-listed g c = listed_as c.self.inside.rows.items c.args.self.now c.self.invariant c.self.view_is

pub returns-clause-listed : goal.returns-clause-listed
returns-clause-listed g c = listed_as c.self.inside.rows.items c.args.self.now c.self.invariant c.self.view_is
