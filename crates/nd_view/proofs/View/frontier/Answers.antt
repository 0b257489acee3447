use Rattle.std.proofs.Common.{ap, subst, length}
use Rattle.std.proofs.lemmas.Result.{IfOk-weaker, on_err_weaker}
use Rattle.nd_view.specs.Kept.{IsFrontierList}
use Rattle.nd_view.proofs.Frontiers.{IsOrder, frontier_hinders, frontier_part, frontier_some}
use Rattle.nd_view.proofs.View.frontier.Goals as goal

pub returns-clause-value : goal.returns-clause-value
returns-clause-value g c =
    let v = c.args.self.now in
    let listed = subst (λ k. IsFrontierList k.counts c.frontier.result.now (length k.counts)) c.self.view_is c.frontier.ensures in
    IfOk-weaker c.part.result _ _ (frontier_part c.args.paths.now v c.requires c.self.inside.counts (ap (λ k. k.map) c.self.view_is) c.frontier.result.now (length v.counts) listed) c.part.ensures.ok

pub returns-clause-some : goal.returns-clause-some
returns-clause-some g c =
    let v = c.args.self.now in
    let listed = subst (λ k. IsFrontierList k.counts c.frontier.result.now (length k.counts)) c.self.view_is c.frontier.ensures in
    on_err_weaker c.part.result (frontier_some c.args.paths.now v c.requires c.frontier.result.now (length v.counts) listed) c.part.ensures.some

pub returns-clause-covers : goal.returns-clause-covers
returns-clause-covers g c =
    let laws = c.order_is_partial.ensures in
    let order : IsOrder c.args.paths.now = record { reflexive = laws.reflexive; transitive = laws.transitive; strict = laws.strict; minimal = laws.minimal } in
    frontier_hinders c.args.paths.now order c.args.self.now c.requires
