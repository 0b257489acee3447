use Rattle.std.proofs.Common.{subst}
use Rattle.nd_map.specs.Listed.{IsListed}
use Rattle.nd_paths.specs.Point.{point_cmp}
use Rattle.nd_view.specs.Rows.{joined}
use Rattle.nd_view.proofs.RowLists.{listed_rows}
use Rattle.nd_view.proofs.rows.Rows.len.Goals as goal

pub returns-clause-listed : goal.returns-clause-listed
returns-clause-listed g c = subst (λ rows. IsListed point_cmp (joined rows)) c.self.view_is (listed_rows c.self.inside.rows.items c.self.invariant)
