use Rattle.std.proofs.Common.{◌-◌, ◌≤◌}
use Rattle.nd_reach.specs.Questions.{wanted}
use Rattle.nd_reach.specs.Found.{HasWalked}
use Rattle.nd_reach.proofs.search.Question.run.Given as goal

abbrev pub invariant-loop-at : goal.invariant-loop-at
invariant-loop-at g l = HasWalked (wanted l.fn.self) l.found.forms.keys l.found.nodes.items l.at l.last l.walker × (l.last ≤ l.at)

abbrev pub decreases-loop-at : goal.decreases-loop-at
decreases-loop-at g l = l.fn.self.limit - l.at
