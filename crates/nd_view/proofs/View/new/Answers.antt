use Rattle.std.proofs.Common.{ap}
use Rattle.nd_view.specs.Rows.{joined}
use Rattle.nd_view.proofs.Fors.{for_none}
use Rattle.nd_view.proofs.View.new.Goals as goal

pub returns-clause-for_all : goal.returns-clause-for_all
returns-clause-for_all g c = λ d. for_none d c.new.result (joined c.new-2.result) c.new.ensures (ap joined c.new-2.ensures)
