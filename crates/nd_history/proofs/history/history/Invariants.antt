use Rattle.std.proofs.Common.{◌≡◌}
use Rattle.nd_timeline.specs.Walks.{IsOn}
use Rattle.nd_history.specs.History.{shown_at, AreAll}
use Rattle.nd_history.proofs.history.history.Given as goal

abbrev pub invariant-loop-at : goal.invariant-loop-at
invariant-loop-at g l = record {
  on : IsOn l.timeline l.walk;
  here : l.walk.at ≡ l.at;
  before : shown_at l.timeline (g.O.Observation.Shows l.observation) l.at l.before;
  listed : AreAll (shown_at l.timeline (g.O.Observation.Shows l.observation)) l.fn.walk.at l.at l.changes;
}
