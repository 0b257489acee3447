use Rattle.std.proofs.Common.{subst}
use Rattle.nd_graph.specs.Graph.{Dataflow}
use Rattle.nd_summaries.proofs.Graphs.{DepthsAgree}
use Rattle.nd_summaries.proofs.Times.{walk_leads}
use Rattle.nd_summaries.proofs.summaries.Summaries.walks_lead_on.Goals as goal

pub returns : goal.returns
returns g c = λ from to walk s.
    let agree = subst (λ (v : Dataflow). DepthsAgree v) c.self.view_is c.self.invariant.agree in
    walk_leads c.args.self.now.order c.args.self.now agree from to walk s
