use Rattle.std.proofs.Common.{length, IfOk, IfErr, OnOk, subst}
use Rattle.nd_timeline.specs.Timeline.{TimelineValue}
use Rattle.nd_history.specs.Least.{HoldsAt, IsLeast}
use Rattle.nd_history.specs.Answers.{MaySearch, SearchFails}
use Rattle.nd_history.proofs.searches.search.Goals as goal

pub returns-clause-found : goal.returns-clause-found
returns-clause-found g c =
    subst (λ (m : TimelineValue g.row.A.Denot). IfOk c.search_in.result (IsLeast (HoldsAt m c.args.condition.now) c.args.lo c.args.hi)) c.timeline.ensures c.search_in.ensures.found

pub returns-clause-may : goal.returns-clause-may
returns-clause-may g c =
    subst (λ (m : TimelineValue g.row.A.Denot). OnOk c.search_in.result (MaySearch (length m.kept) c.args.lo c.args.hi c.args.workers)) c.timeline.ensures c.search_in.ensures.may

pub returns-clause-fails : goal.returns-clause-fails
returns-clause-fails g c =
    subst (λ (m : TimelineValue g.row.A.Denot). IfErr c.search_in.result (SearchFails m c.args.condition.now c.args.lo c.args.hi c.args.workers)) c.timeline.ensures c.search_in.ensures.fails
