use Rattle.std.proofs.Common.{◌⊎◌, subst}
use Rattle.nd_graph.specs.Graph.{Dataflow}
use Rattle.nd_summaries.specs.Walk.{LeadsBefore}
use Rattle.nd_summaries.proofs.Times.{leads_or_not}
use Rattle.nd_summaries.proofs.summaries.Summaries.order_is_decided.Goals as goal

pub returns : goal.returns
returns g c = λ from to s t.
    subst (λ (v : Dataflow). LeadsBefore v.order v from s to t ⊎ (LeadsBefore v.order v from s to t → ⊥)) c.self.view_is
    (leads_or_not c.self.inside.graph.order c.self.inside.graph c.self.inside.lists.items c.self.inside.rows.items c.self.invariant from to s t)
