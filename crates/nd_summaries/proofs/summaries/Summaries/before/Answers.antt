use Rattle.std.proofs.Common.{◌≡◌, ◌≤◌, ◌∙◌, sym, ap, subst, length, refl, arith}
use Rattle.nd_graph.specs.Graph.{Dataflow}
use Rattle.nd_time.specs.declared.order.TimeOrder.{TimeOrder}
use Rattle.nd_summaries.specs.Walk.{HasDepth}
use Rattle.nd_summaries.specs.Table.{SomeLeads}
use Rattle.nd_summaries.proofs.Graphs.{DepthsAgree, depth_within}
use Rattle.nd_summaries.proofs.Decisions.{all_fit, could_from_leads, leads_from_could}
use Rattle.nd_summaries.proofs.summaries.Summaries.before.Goals as goal

pub leads_among-requires : goal.leads_among-requires
leads_among-requires g c =
    let graph : Dataflow = c.args.self.now in
    let view : c.self.inside.graph ≡ graph = c.self.view_is in
    let agree = subst (λ (v : Dataflow). DepthsAgree v) view c.self.invariant.agree in
    let depth = subst (λ (v : Dataflow). HasDepth v c.args.from (length c.args.s.now.counters)) view (c.if-not-has_depth.ensures.0 refl) in
    let depth' = subst (λ (v : Dataflow). HasDepth v c.args.to (length c.args.t.now.counters)) view (c.if-not-has_depth-2.ensures.0 refl) in
    all_fit graph.order graph agree c.args.from c.args.to c.summaries.result.now c.summaries.ensures.minimal (length c.counters.result.now) (length c.counters-2.result.now)
    (ap length c.counters.ensures.value ∙ (depth_within graph c.args.from (length c.args.s.now.counters) depth).1)
    (ap length c.counters-2.ensures.value ∙ (depth_within graph c.args.to (length c.args.t.now.counters) depth').1)

pub returns : goal.returns
returns g c =
    let graph : Dataflow = c.args.self.now in
    let view : c.self.inside.graph ≡ graph = c.self.view_is in
    let order : c.order.result ≡ graph.order = c.order.ensures ∙ ap (λ (v : Dataflow). v.order) view in
    let agree = subst (λ (v : Dataflow). DepthsAgree v) view c.self.invariant.agree in
    let depth = subst (λ (v : Dataflow). HasDepth v c.args.from (length c.args.s.now.counters)) view (c.if-not-has_depth.ensures.0 refl) in
    let depth' = subst (λ (v : Dataflow). HasDepth v c.args.to (length c.args.t.now.counters)) view (c.if-not-has_depth-2.ensures.0 refl) in
    let epochs : c.args.s.now.epoch ≤ c.args.t.now.epoch = omega (arith, c.if-epoch.false, c.epoch.ensures, c.epoch-2.ensures) in (
      λ yes'.
          let some = c.leads_among.ensures.0 yes' in
          let some' = subst (λ (o : TimeOrder). SomeLeads o c.summaries.result.now c.counters.result.now c.counters-2.result.now) order some in
          let leads = subst (λ d. SomeLeads graph.order c.summaries.result.now c.args.s.now.counters d) c.counters-2.ensures.value (subst (λ d. SomeLeads graph.order c.summaries.result.now d c.counters-2.result.now) c.counters.ensures.value some') in
          could_from_leads graph.order graph agree c.args.from c.args.to c.summaries.result.now c.summaries.ensures.minimal c.args.s.now c.args.t.now depth depth' epochs leads,
      λ could.
          let leads = leads_from_could graph.order graph agree c.args.from c.args.to c.summaries.result.now c.summaries.ensures.minimal c.args.s.now c.args.t.now could in
          let leads' = subst (λ d. SomeLeads graph.order c.summaries.result.now c.counters.result.now d) (sym c.counters-2.ensures.value) (subst (λ d. SomeLeads graph.order c.summaries.result.now d c.args.t.now.counters) (sym c.counters.ensures.value) leads) in
          c.leads_among.ensures.1 (subst (λ (o : TimeOrder). SomeLeads o c.summaries.result.now c.counters.result.now c.counters-2.result.now) (sym order) leads'),
    )
