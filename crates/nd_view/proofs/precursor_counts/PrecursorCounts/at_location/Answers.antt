use Rattle.std.proofs.Common.{subst}
use Rattle.std.specs.Prelude.{Contains}
use Rattle.nd_view.specs.Rows.{joined}
use Rattle.nd_view.proofs.precursor_counts.PrecursorCounts.at_location.Goals as goal

pub returns-clause-among : goal.returns-clause-among
returns-clause-among g c = λ e among. subst (λ rows. Contains (joined rows) e) c.self.view_is (c.at_location.ensures.among e among)
