use Rattle.std.proofs.Common.{subst}
use Rattle.nd_view.specs.Kept.{IsKeptAt}
use Rattle.nd_view.proofs.View.precursors.Goals as goal

pub returns-in-Some : goal.returns-in-Some
returns-in-Some g c = (subst (IsKeptAt c.args.paths.now c.args.self.now.map c.args.point.now) c.in-Some.is (c.kept.ensures c.args.paths.now c.requires)).1
