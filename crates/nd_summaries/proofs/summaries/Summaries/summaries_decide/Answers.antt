use Rattle.std.proofs.Common.{subst}
use Rattle.nd_graph.specs.Graph.{Dataflow}
use Rattle.nd_summaries.proofs.Graphs.{DepthsAgree}
use Rattle.nd_summaries.proofs.Times.{some_turns}
use Rattle.nd_summaries.proofs.summaries.Summaries.summaries_decide.Goals as goal

pub returns : goal.returns
returns g c = λ from to list s t.
    let agree = subst (λ (v : Dataflow). DepthsAgree v) c.self.view_is c.self.invariant.agree in
    some_turns c.args.self.now.order c.args.self.now agree from to list s t
