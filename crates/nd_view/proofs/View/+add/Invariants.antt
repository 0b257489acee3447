use Rattle.std.proofs.Common.{length}
use Rattle.nd_view.proofs.View.+add.Given as goal

abbrev pub decreases-add : goal.decreases-add
decreases-add g l = length l.entries.now
