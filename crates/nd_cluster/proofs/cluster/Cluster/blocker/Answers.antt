use Rattle.std.specs.Option.{IsNone, IfSome}
use Rattle.std.proofs.Common.{◌↔◌, subst}
use Rattle.nd_graph.specs.Graph.{Dataflow}
use Rattle.nd_delta.specs.Least.{IsLeast}
use Rattle.nd_view.specs.View.{IsBlocker, IsPassed}
use Rattle.nd_cluster.proofs.cluster.Cluster.blocker.Goals as goal

pub returns-clause-passed : goal.returns-clause-passed
returns-clause-passed g c =
    subst (λ m. IsNone c.blocker.result ↔ IsPassed c.args.self.now.graph m c.args.point.now) c.view.ensures.map
    (subst (λ (k : Dataflow). IsNone c.blocker.result ↔ IsPassed k c.view.result.now.map c.args.point.now) c.paths.ensures c.blocker.ensures.passed)

pub returns-clause-least : goal.returns-clause-least
returns-clause-least g c =
    subst (λ m. IfSome c.blocker.result (IsLeast (IsBlocker c.args.self.now.graph m c.args.point.now))) c.view.ensures.map
    (subst (λ (k : Dataflow). IfSome c.blocker.result (IsLeast (IsBlocker k c.view.result.now.map c.args.point.now))) c.paths.ensures c.blocker.ensures.least)

pub returns-clause-finished : goal.returns-clause-finished
returns-clause-finished g c = λ none keeps.
    let s = c.args.self.now in
    c.protocol_is_safe.ensures.passed s c.n.ensures.state keeps c.args.q c.requires c.args.point.now ((returns-clause-passed g c).0 none)
